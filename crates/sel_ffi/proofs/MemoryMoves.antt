-- A function that moves lent memory from one struct with the fields of `Lent` to another, field by field.
--     LentStruct   such a struct, for values of the type R;   lent_struct     one of its parts
--     moves        the code of the function, whatever the names of the structs
--     moved        it keeps the values. Assumes `Logic`
use Rattle.std.proofs.Common.{◌≡◌, ℕ, List, [], ◌∷◌, ◌++◌, refl, subst, ap, ◌∙◌}
use Rattle.sel_ffi.proofs.Walks.{ !, agg, aggregate, alloc_all, and_then, assign, block_ptr, Body, Callee, Closed, closing, copy}
use Rattle.sel_ffi.proofs.Walks.{ent, enter, field, fld, Fml, Fn, free_all, ftrue, get, get_in, id⊢, Last}
use Rattle.sel_ffi.proofs.Walks.{left, local, Logic, look_at, Meets, Model, no_more, of_opd, pass_all, place, qed}
use Rattle.sel_ffi.proofs.Walks.{RattleType, return, returns, Running, rv_opd, sem, seq, sets, stop, sub}
use Rattle.sel_ffi.proofs.Walks.{Sym, tables, tcons, tnil, turning, turns, Ty, ty_int, ty_ptr, ty_struct, Ura, use1, Val, value_local, vptr}
use Rattle.sel_ffi.proofs.Walks.{w64, whole, WpFn, yes, ‵, ◌$◌, ◌∵◌, turned, by, regoal, prop}
use Rattle.sel_bits.proofs.LentSteps.{three, memory_owns, memory_out, memory_in}
use Rattle.sel_bits.specs.declared.lent.Lent.{Lent}

pub record LentStruct (R : RattleType) : Type 1 where
  pub row : RattleType
  pub lent : row.Denot → Lent R.Denot
  pub of_lent : Lent R.Denot → row.Denot
  pub back : (l : Lent R.Denot) → lent (of_lent l) ≡ l
  pub owned : (d : row.Denot) (vs : List Val)
      → row.own_val d vs ≡ memory_owns R (lent d).at (lent d).len (lent d).room (lent d).items vs
  pub last : (d : row.Denot) → Last (row.exit yes) d
  pub silent : (d : row.Denot) (f : Last (row.exit yes) d) → left (row.exit yes) d f ≡ ftrue

abbrev pub lent_struct : {R : RattleType} (row : RattleType) (lent : row.Denot → Lent R.Denot) (of_lent : Lent R.Denot → row.Denot)
    → ((l : Lent R.Denot) → lent (of_lent l) ≡ l)
    → ((d : row.Denot) (vs : List Val) → row.own_val d vs ≡ memory_owns R (lent d).at (lent d).len (lent d).room (lent d).items vs)
    → ((d : row.Denot) → Last (row.exit yes) d) → ((d : row.Denot) (f : Last (row.exit yes) d) → left (row.exit yes) d f ≡ ftrue) → LentStruct R
lent_struct row lent of_lent back owned last silent =
    record { row = row; lent = lent; of_lent = of_lent; back = back; owned = owned; last = last; silent = silent }

abbrev words : Sym → Ty
words name = ty_struct name (tcons ty_ptr (tcons (ty_int w64) (tcons (ty_int w64) tnil)))

-- Copies a field of the parameter to a local.
abbrev copies : ℕ → ℕ → Body
copies i k = assign (place i []) (rv_opd (copy (place 1 (field k ∷ []))))

abbrev pub moves : Sym → Sym → Fn
moves to from = record {
  lifetimes = 0;
  outlives = [];
  ty_params = [];
  givens = 0;
  params = 1;
  locals = local (words to) value_local ∷ local (words from) value_local ∷ local ty_ptr value_local
      ∷ local (ty_int w64) value_local ∷ local (ty_int w64) value_local ∷ [];
  body = seq (copies 2 0) (seq (copies 3 1) (seq (copies 4 2)
      (seq (assign (place 0 []) (aggregate (copy (place 2 []) ∷ copy (place 3 []) ∷ copy (place 4 []) ∷ []))) return)));
}

module _ {M : Type 1} {𝓤 : Ura M} (𝓛 : Logic 𝓤) (𝓜 : Model 𝓤 𝓛.H) (𝓡 : Running 𝓤 𝓛.H 𝓜) {R : RattleType} (From To : LentStruct R) where
  open 𝓛 use {H}

  abbrev memory : Lent R.Denot → List Val → Fml
  memory l = memory_owns R l.at l.len l.room l.items

  pub moved : (to from : Sym) {k : Callee} → Closed 𝓤 H (tables 𝓤 H 𝓜 𝓡 𝓡.env).C (tables 𝓤 H 𝓜 𝓡 𝓡.env).Λ k (moves to from)
      → Meets 𝓛 (turns From.row To.row).signature ((tables 𝓤 H 𝓜 𝓡 𝓡.env).C k)
      (closing 𝓛 (turns From.row To.row) (turning 𝓛 From.row To.row (λ a r. (To.lent r).items ≡ (From.lent a).items)))
  moved to from closed = turned 𝓛 𝓜 𝓡 From.row To.row (λ a r. (To.lent r).items ≡ (From.lent a).items) From.last From.silent (moves to from) closed (λ d vs Post ends.
      let 𝓣 = tables 𝓤 H 𝓜 𝓡 𝓡.env in let fn : Fn = moves to from in let l = From.lent d in
      qed 𝓛 (‵ (From.row.own_val d vs) ∷ []) ∵
      use1 𝓛 (‵ (memory l vs)) (subst (λ (F : Fml). ent 𝓤 (sem 𝓛 (From.row.own_val d vs)) (sem 𝓛 F)) (From.owned d vs) (id⊢ 𝓤 _)) $
      memory_out R ! l.at l.len l.room l.items vs (λ b o e is fn' fc. let w : Val = three (vptr b o) l.len l.room in
      regoal ! (λ (us : List Val). prop (WpFn 𝓤 H 𝓣.C 𝓣.Λ fn (us ++ []) Post)) is refl $
      enter ! 𝓣.C 𝓣.Λ fn (w ∷ []) Post $ alloc_all ! (λ a. pass_all ! refl ((tt, (tt, (record { fits = fn' }, (record { fits = fc }, tt)))), tt) $
      sets ! (of_opd ! (get_in ! (fld ! refl (stop !)) (sub ! 0 refl (whole !)))) refl (tt, tt) $
      sets ! (of_opd ! (get_in ! (fld ! refl (stop !)) (sub ! 1 refl (whole !)))) refl (tt, record { fits = fn' }) $
      sets ! (of_opd ! (get_in ! (fld ! refl (stop !)) (sub ! 2 refl (whole !)))) refl (tt, record { fits = fc }) $
      sets ! (agg ! (and_then ! (get ! refl) (and_then ! (get ! refl) (and_then ! (get ! refl) (no_more !))))) refl (tt, (tt, (record { fits = fn' }, (record { fits = fc }, tt)))) $
      returns ! (look_at ! 0 refl) $ free_all ! refl $ memory_in R ! b o l.len l.room l.items fn' fc $
      let new : Lent R.Denot = record { at = block_ptr b o; len = l.len; room = l.room; items = l.items; counted = l.counted; small = l.small } in
      let r = To.of_lent new in let owns_new : To.row.own_val r (w ∷ []) ≡ memory new (w ∷ []) = To.owned r (w ∷ []) ∙ ap (λ (x : Lent R.Denot). memory x (w ∷ [])) (To.back new) in
      use1 𝓛 (‵ (To.row.own_val r (w ∷ []))) (subst (λ (F : Fml). ent 𝓤 (sem 𝓛 F) (sem 𝓛 (To.row.own_val r (w ∷ [])))) owns_new (id⊢ 𝓤 _)) $
      by ! (ends r w (ap (λ (x : Lent R.Denot). x.items) (To.back new))))))
