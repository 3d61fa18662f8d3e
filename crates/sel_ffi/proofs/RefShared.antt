-- The function that reads a struct as in RefSteps: it reads the pointer field, compares it with null, and returns a `&` to the value for
-- the lifetime of the `&` to the struct.
--     reads      its code
--     shared     it meets its contract. Assumes `Logic`
use Rattle.std.proofs.Common.{◌≡◌, List, [], ◌∷◌, refl, sym, ap, ◌∙◌, lit<}
use Rattle.sel_ffi.proofs.Walks.{ !, addr, addr_of, after, after_seq, agg, aggregate, alloc_all, and_then, any_q, assign, at_ret, at_return, await, bin, block}
use Rattle.sel_ffi.proofs.Walks.{block_ptr, blocks, Body, branches, by, Callee, cell_at, Clauses, Closed, closing, cond, copy, deref, emp, Ended, enter, env}
use Rattle.sel_ffi.proofs.Walks.{erased, exec, fact, fact_i, fbor, feq_i, field, first, fjoin, fld, flft, Fn, free_all, fsplit, ftrue, get, Goes-dropped, Good}
use Rattle.sel_ffi.proofs.Walks.{hidden_shr, imm, int, Is, join, keep, later, Laws, layout, leaves, Lft, Lifetime, lit, live, load, local, Logic, look_at}
use Rattle.sel_ffi.proofs.Walks.{look_in, looks, MatchOption, Meets, Model, move, named, no_more, none_of, nothing, of_opd, op2, Owning, owns, pass_all, peeks}
use Rattle.sel_ffi.proofs.Walks.{place, plain, proved, Ptr, ptr_eq, qed, RattleType, raw, return, returns, rewrite, row, Running, rv_opd, sem, seq, sets}
use Rattle.sel_ffi.proofs.Walks.{sets_last, shows, shr_ref_to, shuts, Some-of, split, SProp, stay_dropped, Stays, stop, sub, Sym, tables, tcons, tests_null}
use Rattle.sel_ffi.proofs.Walks.{through, tnil, ttcons, ttnil, Ty, ty_bool, ty_enum, ty_ptr, ty_ref, ty_struct, type_at, types_at, Ura, use0, use1, use2, Val}
use Rattle.sel_ffi.proofs.Walks.{value_local, vcons, vnil, vptr, w64, w8, walk_of, whole, Wp, yes, ‵, ◌$◌, ◌∵◌, ◌⊛◌}
use Rattle.sel_ffi.proofs.Common.{Option, None, Some, ref_owns}
use Rattle.sel_ffi.proofs.RefSteps.{Data, ref_struct, word, told, opened, parted, either_ref}
use denote.Ref.{ShrRef, shr_vals, shr_Tells}
use Rattle.std.specs.contracts.option.Option as option

-- The body of the other branch: the address as a `&`, in `Some`.
abbrev found : Body
found = seq (assign (place 6 []) (rv_opd (copy (place 7 [])))) (assign (place 5 []) (aggregate (int w8 1 ∷ copy (place 6 []) ∷ [])))

-- The code of `shared`, by the names of its types: of `Option`, of the struct, and of the value.
module _ (optional name : Sym) (struct value laid : Ty) where
  abbrev optional_ref : Lifetime → Ty
  optional_ref κ = ty_enum optional (ttcons tnil (ttcons (tcons (ty_ref κ imm value) tnil) ttnil))

  abbrev pub reads : Fn
  reads = record {
    lifetimes = 1;
    outlives = [];
    ty_params = [];
    givens = 0;
    params = 1;
    locals = local (optional_ref (named 0)) value_local ∷ local (ty_ref (named 0) imm struct) value_local ∷ local ty_ptr value_local ∷ local ty_ptr value_local
        ∷ local ty_bool value_local ∷ local (optional_ref erased) value_local ∷ local (ty_ref erased imm value) value_local
        ∷ local (ty_ref erased imm value) value_local ∷ local ty_ptr value_local ∷ local ty_ptr value_local ∷ [];
    body = seq (assign (place 2 []) (rv_opd (copy (place 1 (deref (ty_struct name (tcons ty_ptr tnil)) ∷ field 0 ∷ [])))))
        (seq (assign (place 3 []) (rv_opd (copy (place 2 []))))
        (seq (assign (place 4 []) (op2 ptr_eq (copy (place 3 [])) (int w64 0)))
        (seq (cond (copy (place 4 [])) (assign (place 5 []) (aggregate (int w8 0 ∷ [])))
        (seq (block (seq (assign (place 8 []) (rv_opd (copy (place 2 [])))) (seq (assign (place 9 []) (rv_opd (copy (place 8 []))))
        (assign (place 7 []) (addr_of (place 9 (deref laid ∷ []))))))) found))
        (seq (assign (place 0 []) (rv_opd (copy (place 5 [])))) return))));
  }

module _ {M : Type 1} {𝓤 : Ura M} (𝓛 : Logic 𝓤) (𝓜 : Model 𝓤 𝓛.H) (𝓡 : Running 𝓤 𝓛.H 𝓜) {R : RattleType} (LR : Laws R) (S : Owning) (at : S.D → Ptr) (held : S.D → Option R.Denot) where
  open 𝓛 use {H}

  abbrev Row : RattleType
  Row = row (ref_struct R S at held)

  abbrev Pointer : RattleType
  Pointer = Data S.name

  abbrev ended : Ended
  ended = record {
    signature = record {
      lifetimes = 1;
      outlives = [];
      params = shr_ref_to (0 ∷ []) tt (plain (λ κs. Row)) ∷ [];
      result = plain (λ κs. option.the_row (type_at {n = 1} (shr_ref_to (0 ∷ []) tt (plain (λ _. R))) κs));
    };
    kept = (yes, tt);
  }

  abbrev clauses : Clauses 𝓤 ended
  clauses κs a = record {
    ghost = Unit {0};
    requires = λ g. sem 𝓛 ftrue;
    ensures = λ g r e. fact 𝓤 (MatchOption r (held a.0.now ≡ None) (λ x. held a.0.now ≡ Some x.now));
  }

  pub shared : (optional name : Sym) (struct value laid : Ty) {k : Callee}
      → Closed 𝓤 H (tables 𝓤 H 𝓜 𝓡 𝓡.env).C (tables 𝓤 H 𝓜 𝓡 𝓡.env).Λ k (reads optional name struct value laid)
      → Meets 𝓛 ended.signature ((tables 𝓤 H 𝓜 𝓡 𝓡.env).C k) (closing 𝓛 ended clauses)
  shared optional name struct value laid {k} closed =
      let 𝓣 = tables 𝓤 H 𝓜 𝓡 𝓡.env in let c = clauses in let fn : Fn = reads optional name struct value laid in
      let self = shr_ref_to (0 ∷ []) tt (plain (λ _. Row)) in let hs : Stays ended.signature.params ended.kept = (stay_dropped self yes, tt) in
      proved 𝓛 ended hs c 𝓜 𝓡 (Goes-dropped 𝓛 1 self yes (λ κs x f. refl), tt) k fn closed (λ κs. (shr_vals, tt)) (λ κs. (shr_Tells (named 0) κs.0 Row, tt)) (λ κs qs bounds a gh are.
      let b = a.0.ref_ptr.0 in let o = a.0.ref_ptr.1 in let κ : Lft = κs.0 in let d : Row.Denot = a.0.now in let Ref : RattleType = ShrRef (named 0) κ R in let Out : RattleType = type_at ended.signature.result κs in
      let y : (walk_of 𝓛 ended hs c).Ghost = ((κs, qs, bounds, a, (vptr b o ∷ [], tt)), gh) in let Post : Val → SProp 𝓤 = (walk_of 𝓛 ended hs c).post y in
      -- The argument's `&`, with the token of its lifetime.
      qed 𝓛 (((‵ (flft κ qs.0) ⊛ ‵ ftrue) ⊛ ‵ (owns (types_at ended.signature.params κs) a y.0.4)) ∷ raw ((c κs a).requires gh) ∷ []) ∵
      split ! $ split ! $ move ! (2 ∷ []) $ fsplit ! $ fsplit ! $ keep ! (1 ∷ 3 ∷ 4 ∷ []) $
      enter ! 𝓣.C 𝓣.Λ fn (vptr b o ∷ []) Post $ alloc_all ! (λ l. pass_all ! refl ((tt, tt), tt) $ let Ev = env fn.locals l in
      -- It is a `&` to the pointer field and a borrow of what the struct owns: null, or a `&` to
      -- the value.
      use2 𝓛 (later (‵ (hidden_shr Pointer κ (at d, tt) b o) ⊛ (‵ (fbor κ (ref_owns R (at d) (held d))) ⊛ ‵ (flft κ qs.0)))) (parted 𝓛 LR S at held d b o κ qs.0) $ await ! tt $ split ! $ move ! (1 ∷ []) $ split ! $
      either_ref LR ! tt (at d) (held d)
      (λ null empty. move ! (1 ∷ 0 ∷ []) $
      -- The field is read: null.
      looks ! tt Pointer (opened S.name 𝓛) (at d, tt) b o (λ s vs. move ! (1 ∷ []) $ peeks ! Pointer (Is Pointer) (shows 𝓛 Pointer) (at d, tt) vs (λ is. let ev = told S.name (at d) vs is ∙ ap (λ (r : Ptr). word r ∷ []) null in
      rewrite ! 1 (λ (ws : List Val). ‵ (cell_at s Pointer.mir ws b o)) ev refl $
      sets ! (of_opd ! (load ! (through ! refl (fld ! refl (stop !))) (look_in ! 1 (sub ! 0 refl (whole !))))) refl (tt, record { fits = lit< tt }) $
      rewrite ! 1 (λ (ws : List Val). ‵ (cell_at s Pointer.mir ws b o)) (sym ev) refl $ move ! (1 ∷ 0 ∷ 2 ∷ []) $ shuts ! tt Pointer s (at d, tt) vs b o $
      -- The comparison is true, and `None` is returned.
      sets ! (of_opd ! (get ! refl)) refl (tt, record { fits = lit< tt }) $ sets ! (bin ! (get ! refl) (lit ! tt) tt) refl (tt, tt) $ first ! $ branches ! (get ! refl)
      (λ _. sets_last ! (agg ! (and_then ! (lit ! tt) (no_more !))) refl (tt, (record { fits = lit< tt }, tt)) $ exec ! 𝓣.C 𝓣.Λ Ev (after 4 fn.body) (at_ret Ev Post) $ sets ! (of_opd ! (get ! refl)) refl (tt, (record { fits = lit< tt }, tt)) $
      use0 𝓛 (‵ (Out.own_val None (live 0 vnil ∷ []))) (none_of 𝓛 Ref) $ move ! (1 ∷ 3 ∷ []) $ join ! $
      use0 𝓛 (raw (fact 𝓤 (held d ≡ None))) (fact_i 𝓤 (held d ≡ None) (emp 𝓤) empty) $ nothing ! $ nothing ! $ fjoin ! $ returns ! (look_at ! 0 refl) $ free_all ! refl $
      keep ! (2 ∷ 0 ∷ 3 ∷ 1 ∷ []) $ by ! (leaves 𝓛 ended hs c y (live 0 vnil) None (tt, tt) (tt, tt)))
      (λ wrong. absurd wrong))))
      (λ cb co x there some may. move ! (2 ∷ 1 ∷ []) $
      let v : Val = live 1 (vcons (vptr cb co) vnil) in let good : Good (layout Out) v = (tt, (record { fits = lit< tt }, (tt, tt))) in let column : Ref.Denot = record { ref_ptr = (cb, co); now = x } in
      -- The field is read: the address of the value.
      looks ! tt Pointer (opened S.name 𝓛) (at d, tt) b o (λ s vs. move ! (1 ∷ []) $ peeks ! Pointer (Is Pointer) (shows 𝓛 Pointer) (at d, tt) vs (λ is. let ev = told S.name (at d) vs is ∙ ap (λ (r : Ptr). word r ∷ []) there in
      rewrite ! 1 (λ (ws : List Val). ‵ (cell_at s Pointer.mir ws b o)) ev refl $
      sets ! (of_opd ! (load ! (through ! refl (fld ! refl (stop !))) (look_in ! 1 (sub ! 0 refl (whole !))))) refl (tt, tt) $
      rewrite ! 1 (λ (ws : List Val). ‵ (cell_at s Pointer.mir ws b o)) (sym ev) refl $ move ! (1 ∷ 0 ∷ 2 ∷ []) $ shuts ! tt Pointer s (at d, tt) vs b o $
      -- The comparison is false, and the address is returned as a `&`, in `Some`.
      sets ! (of_opd ! (get ! refl)) refl (tt, tt) $ sets ! (bin ! (get ! refl) (lit ! tt) (tests_null (block_ptr cb co) may)) refl (tt, tt) $ first ! $ branches ! (get ! refl)
      (λ wrong. absurd wrong)
      (λ _. first ! $ blocks ! $ sets ! (of_opd ! (get ! refl)) refl (tt, tt) $ sets ! (of_opd ! (get ! refl)) refl (tt, tt) $ sets_last ! (addr ! (through ! refl (stop !))) refl (tt, tt) $
      exec ! 𝓣.C 𝓣.Λ Ev found (any_q (after_seq 𝓤 H (Wp 𝓤 H 𝓣.C 𝓣.Λ Ev (after 4 fn.body) (at_return 𝓤 H Ev Post)) (at_return 𝓤 H Ev Post))) $
      sets ! (of_opd ! (get ! refl)) refl (tt, tt) $ sets_last ! (agg ! (and_then ! (lit ! tt) (and_then ! (get ! refl) (no_more !)))) refl good $
      exec ! 𝓣.C 𝓣.Λ Ev (after 4 fn.body) (at_ret Ev Post) $ sets ! (of_opd ! (get ! refl)) refl good $ move ! (2 ∷ []) $
      feq_i ! (List Val) (vptr cb co ∷ []) (vptr cb co ∷ []) refl $ fjoin ! $ use1 𝓛 (‵ (Out.own_val (Some column) (v ∷ []))) (Some-of 𝓛 Ref column (vptr cb co)) $ move ! (1 ∷ 3 ∷ []) $ join ! $
      use0 𝓛 (raw (fact 𝓤 (held d ≡ Some x))) (fact_i 𝓤 (held d ≡ Some x) (emp 𝓤) some) $ nothing ! $ nothing ! $ fjoin ! $ returns ! (look_at ! 0 refl) $ free_all ! refl $
      keep ! (2 ∷ 0 ∷ 3 ∷ 1 ∷ []) $ by ! (leaves 𝓛 ended hs c y v (Some column) (tt, tt) (tt, tt))))))))
