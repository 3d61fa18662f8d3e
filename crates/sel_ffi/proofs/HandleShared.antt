-- The functions of a handle that make it or take it apart.
--     empty_code, ..                their code
--     empty, of_loose, into_loose   they meet their contracts. Assumes `Logic`
use Rattle.std.proofs.Common.{◌≡◌, ℕ, List, [], ◌∷◌, ◌++◌, refl, ap, ◌∙◌, lit<}
use Rattle.std.specs.declared.option.Option.TheVariants.{None, Some}
use Rattle.sel_ffi.proofs.Walks.{ !, after, agg, aggregate, alloc_all, and_then, and_tt, assign, at_ret, bin, block_ptr, Body, branches, Callee, Closed}
use Rattle.sel_ffi.proofs.Walks.{closing, cond, copy, drop, enter, env, exec, feq_i, field, first, fld, Fn, free_all, get, get_in, ghosts, Good, handle_tells}
use Rattle.sel_ffi.proofs.Walks.{int, layout, lit, live, local, Logic, look_at, MatchOption, Meets, Model, move, no_more, none_of, null_ptr, of_opd, op2}
use Rattle.sel_ffi.proofs.Walks.{pass_all, place, Ptr, ptr_eq, ptr_val, qed, RattleType, return, returns, Running, rv_opd, seq, sets, sets_last, Some-of, stop}
use Rattle.sel_ffi.proofs.Walks.{sub, Sym, tables, tests_null, turning, turns, Ty, ty_bool, ty_ptr, Ura, use0, use1, Val, value_local, vcons, vnil, vptr, w64}
use Rattle.sel_ffi.proofs.Walks.{w8, whole, WpFn, ‵, ◌$◌, ◌∵◌, turned, by, regoal, prop}
use Rattle.sel_ffi.proofs.LooseSteps.{both, Loose, loose_out, loose_in}
use Rattle.sel_ffi.proofs.HandleSteps.{Owner, Parts, Row, Z, al, handle_ty, ptr_good, handle_out, handle_in, either_held}
use Rattle.std.proofs.alloc.Global.TheLaws as heap_laws
use Rattle.std.specs.contracts.option.Option as option

-- The code of `empty`, by the name of the struct.
abbrev pub empty_code : Sym → Fn
empty_code name = record {
  lifetimes = 0;
  outlives = [];
  ty_params = [];
  givens = 0;
  params = 1;
  locals = local (handle_ty name) value_local ∷ local (layout Z) value_local ∷ [];
  body = seq (assign (place 0 []) (aggregate (int w64 0 ∷ copy (place 1 []) ∷ []))) return;
}

-- Copies a field of the parameter to a local.
abbrev copies : ℕ → ℕ → Body
copies i k = assign (place i []) (rv_opd (copy (place 1 (field k ∷ []))))

module _ (R : RattleType) where
  abbrev loose_ty : Ty
  loose_ty = layout (Loose R Z heap_laws.the_row_laws ghosts)

  abbrev option_ty : Ty
  option_ty = layout (option.the_row (Loose R Z heap_laws.the_row_laws ghosts))

  -- The code of `of_loose`.
  abbrev pub of_loose_code : Sym → Fn
  of_loose_code name = record {
    lifetimes = 0;
    outlives = [];
    ty_params = [];
    givens = 0;
    params = 1;
    locals = local (handle_ty name) value_local ∷ local loose_ty value_local ∷ local ty_ptr value_local ∷ local (layout Z) value_local ∷ local ty_ptr value_local ∷ [];
    body = seq (copies 2 0) (seq (copies 3 1) (seq (assign (place 4 []) (rv_opd (copy (place 2 []))))
        (seq (assign (place 0 []) (aggregate (copy (place 4 []) ∷ copy (place 3 []) ∷ []))) return)));
  }

  -- The code of `into_loose`.
  abbrev pub into_loose_code : Sym → Fn
  into_loose_code name = record {
    lifetimes = 0;
    outlives = [];
    ty_params = [];
    givens = 0;
    params = 1;
    locals = local option_ty value_local ∷ local (handle_ty name) value_local ∷ local ty_ptr value_local ∷ local (layout Z) value_local ∷ local ty_bool value_local
        ∷ local option_ty value_local ∷ local ty_ptr value_local ∷ local loose_ty value_local ∷ [];
    body = seq (copies 2 0) (seq (copies 3 1) (seq (assign (place 4 []) (op2 ptr_eq (copy (place 2 [])) (int w64 0)))
        (seq (cond (copy (place 4 [])) (assign (place 5 []) (aggregate (int w8 0 ∷ [])))
        (seq (assign (place 6 []) (rv_opd (copy (place 2 [])))) (seq (assign (place 7 []) (aggregate (copy (place 6 []) ∷ copy (place 3 []) ∷ [])))
        (assign (place 5 []) (aggregate (int w8 1 ∷ copy (place 7 []) ∷ []))))))
        (seq (assign (place 0 []) (rv_opd (copy (place 5 [])))) return))));
  }

module _ {M : Type 1} {𝓤 : Ura M} (𝓛 : Logic 𝓤) (𝓜 : Model 𝓤 𝓛.H) (𝓡 : Running 𝓤 𝓛.H 𝓜) {R : RattleType} (O : Owner R) where
  open 𝓛 use {H}

  abbrev Handle : RattleType
  Handle = Row O

  abbrev Boxed : RattleType
  Boxed = Loose R Z heap_laws.the_row_laws ghosts

  pub empty : (name : Sym) {k : Callee} → Closed 𝓤 H (tables 𝓤 H 𝓜 𝓡 𝓡.env).C (tables 𝓤 H 𝓜 𝓡 𝓡.env).Λ k (empty_code name)
      → Meets 𝓛 (turns Z Handle).signature ((tables 𝓤 H 𝓜 𝓡 𝓡.env).C k) (closing 𝓛 (turns Z Handle) (turning 𝓛 Z Handle (λ a r. (O.parts r).1.1 ≡ None)))
  empty name closed = turned 𝓛 𝓜 𝓡 Z Handle (λ a r. (O.parts r).1.1 ≡ None) (λ d. tt) (λ d f. refl) (empty_code name) closed (λ a vs Post ends.
      let 𝓣 = tables 𝓤 H 𝓜 𝓡 𝓡.env in let fn : Fn = empty_code name in
      qed 𝓛 (‵ (Z.own_val a vs) ∷ []) ∵ handle_tells al ! a vs (λ h ws fits. move ! (1 ∷ []) $ drop ! $
      regoal ! (λ (us : List Val). prop (WpFn 𝓤 H 𝓣.C 𝓣.Λ fn (us ++ []) Post)) ws refl $
      enter ! 𝓣.C 𝓣.Λ fn (h ∷ []) Post $ alloc_all ! (λ l. pass_all ! refl (fits, tt) $
      sets ! (agg ! (and_then ! (lit ! tt) (and_then ! (get ! refl) (no_more !)))) refl (ptr_good name null_ptr h fits) $
      returns ! (look_at ! 0 refl) $ free_all ! refl $ feq_i ! Ptr null_ptr null_ptr refl $
      handle_in O ! h (null_ptr, (a, None)) $ by ! (ends (O.make (null_ptr, (a, None))) (both (ptr_val null_ptr) h) (ap (λ x. x.1.1) (O.back (null_ptr, (a, None))))))))

  pub of_loose : (name : Sym) {k : Callee} → Closed 𝓤 H (tables 𝓤 H 𝓜 𝓡 𝓡.env).C (tables 𝓤 H 𝓜 𝓡 𝓡.env).Λ k (of_loose_code R name)
      → Meets 𝓛 (turns Boxed Handle).signature ((tables 𝓤 H 𝓜 𝓡 𝓡.env).C k) (closing 𝓛 (turns Boxed Handle) (turning 𝓛 Boxed Handle (λ a r. (O.parts r).1.1 ≡ Some a.value)))
  of_loose name closed = turned 𝓛 𝓜 𝓡 Boxed Handle (λ a r. (O.parts r).1.1 ≡ Some a.value) (λ d. tt) (λ d f. refl) (of_loose_code R name) closed (λ v vs Post ends.
      let 𝓣 = tables 𝓤 H 𝓜 𝓡 𝓡.env in let fn : Fn = of_loose_code R name in
      qed 𝓛 (‵ (Boxed.own_val v vs) ∷ []) ∵ loose_out R Z heap_laws.the_row_laws ghosts ! v vs (λ b o h e ws fits. let w : Val = both (vptr b o) h in
      regoal ! (λ (us : List Val). prop (WpFn 𝓤 H 𝓣.C 𝓣.Λ fn (us ++ []) Post)) ws refl $
      enter ! 𝓣.C 𝓣.Λ fn (w ∷ []) Post $ alloc_all ! (λ l. pass_all ! refl (ptr_good name (block_ptr b o) h fits, tt) $
      sets ! (of_opd ! (get_in ! (fld ! refl (stop !)) (sub ! 0 refl (whole !)))) refl (tt, tt) $ sets ! (of_opd ! (get_in ! (fld ! refl (stop !)) (sub ! 1 refl (whole !)))) refl fits $
      sets ! (of_opd ! (get ! refl)) refl (tt, tt) $ sets ! (agg ! (and_then ! (get ! refl) (and_then ! (get ! refl) (no_more !)))) refl (ptr_good name (block_ptr b o) h fits) $
      returns ! (look_at ! 0 refl) $ free_all ! refl $ let x : Parts R = (block_ptr b o, (v.alloc, Some v.value)) in
      handle_in O ! h x $ by ! (ends (O.make x) w (ap (λ y. y.1.1) (O.back x))))))

  abbrev loosens : Handle.Denot → (option.the_row Boxed).Denot → Type 0
  loosens a r = MatchOption r ((O.parts a).1.1 ≡ None) (λ loose. (O.parts a).1.1 ≡ Some loose.value)

  pub into_loose : (name : Sym) {k : Callee} → Closed 𝓤 H (tables 𝓤 H 𝓜 𝓡 𝓡.env).C (tables 𝓤 H 𝓜 𝓡 𝓡.env).Λ k (into_loose_code R name)
      → Meets 𝓛 (turns Handle (option.the_row Boxed)).signature ((tables 𝓤 H 𝓜 𝓡 𝓡.env).C k) (closing 𝓛 (turns Handle (option.the_row Boxed)) (turning 𝓛 Handle (option.the_row Boxed) loosens))
  into_loose name closed = turned 𝓛 𝓜 𝓡 Handle (option.the_row Boxed) loosens (λ d. tt) (λ d f. refl) (into_loose_code R name) closed (λ d vs Post ends.
      let 𝓣 = tables 𝓤 H 𝓜 𝓡 𝓡.env in let fn : Fn = into_loose_code R name in let x = O.parts d in let a = x.1.0 in let Out : RattleType = option.the_row Boxed in
      qed 𝓛 (‵ (Handle.own_val d vs) ∷ []) ∵ handle_out O ! d vs (λ h ws fits. either_held ! R a x.0 x.1.1
      (λ is is_none. let w : Val = both (ptr_val null_ptr) h in
      regoal ! (λ (us : List Val). prop (WpFn 𝓤 H 𝓣.C 𝓣.Λ fn (us ++ []) Post)) (ws ∙ ap (λ (p : Ptr). both (ptr_val p) h ∷ []) is) refl $
      drop ! $ enter ! 𝓣.C 𝓣.Λ fn (w ∷ []) Post $ alloc_all ! (λ l. pass_all ! refl (ptr_good name null_ptr h fits, tt) $
      sets ! (of_opd ! (get_in ! (fld ! refl (stop !)) (sub ! 0 refl (whole !)))) refl (tt, record { fits = lit< tt }) $ sets ! (of_opd ! (get_in ! (fld ! refl (stop !)) (sub ! 1 refl (whole !)))) refl fits $
      sets ! (bin ! (get ! refl) (lit ! tt) tt) refl (tt, tt) $ first ! $ branches ! (get ! refl)
      (λ _. sets_last ! (agg ! (and_then ! (lit ! tt) (no_more !))) refl (tt, (record { fits = lit< tt }, tt)) $ exec ! 𝓣.C 𝓣.Λ (env fn.locals l) (after 4 fn.body) (at_ret (env fn.locals l) Post) $
      sets ! (of_opd ! (get ! refl)) refl (tt, (record { fits = lit< tt }, tt)) $ returns ! (look_at ! 0 refl) $ free_all ! refl $
      use0 𝓛 (‵ (Out.own_val None (live 0 vnil ∷ []))) (none_of 𝓛 Boxed) $ by ! (ends None (live 0 vnil) is_none))
      (λ wrong. absurd wrong)))
      (λ b o v is is_some may. let w : Val = both (vptr b o) h in let typed = ptr_good name (block_ptr b o) h fits in
      let v₁ : Val = live 1 (vcons w vnil) in let made : Boxed.Denot = record { at = block_ptr b o; alloc = a; value = v } in let good : Good (layout Out) v₁ = (and_tt _ typed.0, (record { fits = lit< tt }, (typed.1, tt))) in
      regoal ! (λ (us : List Val). prop (WpFn 𝓤 H 𝓣.C 𝓣.Λ fn (us ++ []) Post)) (ws ∙ ap (λ (p : Ptr). both (ptr_val p) h ∷ []) is) refl $
      enter ! 𝓣.C 𝓣.Λ fn (w ∷ []) Post $ alloc_all ! (λ l. pass_all ! refl (typed, tt) $
      sets ! (of_opd ! (get_in ! (fld ! refl (stop !)) (sub ! 0 refl (whole !)))) refl (tt, tt) $ sets ! (of_opd ! (get_in ! (fld ! refl (stop !)) (sub ! 1 refl (whole !)))) refl fits $
      sets ! (bin ! (get ! refl) (lit ! tt) (tests_null (block_ptr b o) may)) refl (tt, tt) $ first ! $ branches ! (get ! refl)
      (λ wrong. absurd wrong)
      (λ _. sets ! (of_opd ! (get ! refl)) refl (tt, tt) $ sets ! (agg ! (and_then ! (get ! refl) (and_then ! (get ! refl) (no_more !)))) refl typed $
      sets_last ! (agg ! (and_then ! (lit ! tt) (and_then ! (get ! refl) (no_more !)))) refl good $ exec ! 𝓣.C 𝓣.Λ (env fn.locals l) (after 4 fn.body) (at_ret (env fn.locals l) Post) $
      sets ! (of_opd ! (get ! refl)) refl good $ returns ! (look_at ! 0 refl) $ free_all ! refl $ loose_in R Z heap_laws.the_row_laws ghosts ! b o h a v $
      use1 𝓛 (‵ (Out.own_val (Some made) (v₁ ∷ []))) (Some-of 𝓛 Boxed made w) $ by ! (ends (Some made) v₁ is_some))))))
