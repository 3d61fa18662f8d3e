-- Tests of each row reference of a plan, over plain variables.
use Rattle.sel_runs.proofs.Common.{◌≡◌, ℕ, suc, All, List, ◌∷◌, length, Option, ap, sym, subst, arith, All-cons, All-head, All-nil, All-tail}
use Rattle.sel_runs.proofs.Gathers.{none_left}

-- The last `left` of the row references `ps` are `rest`, and those before them satisfy `P`.
pub record IsTested (P : Option (ℕ × ℕ) → Type 0) (ps rest : List (Option (ℕ × ℕ))) (left : ℕ) : Type 0 where
  pub passes : All P rest → All P ps
  pub follows : All P ps → All P rest
  pub count : left ≡ length rest

module _ (P : Option (ℕ × ℕ) → Type 0) (ps : List (Option (ℕ × ℕ))) where
  pub tested_none : (rest : List (Option (ℕ × ℕ))) (left : ℕ) → rest ≡ ps → left ≡ length ps → IsTested P ps rest left
  tested_none rest left same count = record {
    passes = λ all. subst (All P) same all;
    follows = λ all. subst (All P) (sym same) all;
    count = rw same count;
  }

  pub tested_next : (rest more : List (Option (ℕ × ℕ))) (p : Option (ℕ × ℕ)) (left : ℕ) → IsTested P ps rest (suc left) → rest ≡ p ∷ more → P p → IsTested P ps more left
  tested_next rest more p left was next here = record {
    passes = λ all. was.passes (subst (All P) (sym next) (All-cons P p more here all));
    follows = λ all. All-tail P p more (subst (All P) next (was.follows all));
    count = omega (arith, was.count, ap length next);
  }

  pub tested_here : (rest more : List (Option (ℕ × ℕ))) (p : Option (ℕ × ℕ)) (left : ℕ) → IsTested P ps rest left → rest ≡ p ∷ more → All P ps → P p
  tested_here rest more p left was next all = All-head P p more (subst (All P) next (was.follows all))

  pub tested_all : (rest : List (Option (ℕ × ℕ))) → IsTested P ps rest 0 → All P ps
  tested_all rest was = was.passes (subst (All P) (sym (none_left rest (sym was.count))) (All-nil P))
