-- The row references of the next run.
use Rattle.sel_runs.proofs.Common.{common_steps, ◌≡◌, All, ℕ, ◌+◌, ◌≤◌, List, ◌++◌, length, take, drop, Option, ap, sym, subst, ◌∙◌, arith, length-append, take-add, map-append}
use Rattle.sel_runs.proofs.Common.{take-append-le, drop-append-le, take_all, drop_all, length-drop, found, pick, unrolled, Run}
use Rattle.sel_runs.proofs.{Gathers.left_behind, RunLists.All-left, RunLists.length-unrolled}

module _ (ps left rest : List (Option (ℕ × ℕ))) (run : Run) (at : ℕ) (behind : left ≡ drop at ps) (next : left ≡ unrolled run ++ rest) where
  first_picks : take run.len left ≡ unrolled run
  first_picks = grind (arith, common_steps, length-unrolled, take-append-le, take_all)

  other_picks : rest ≡ drop run.len left
  other_picks = grind (arith, common_steps, length-unrolled, drop-append-le, drop_all)

  pub run_behind : rest ≡ drop (at + run.len) ps
  run_behind = left_behind ps left rest at run.len behind other_picks

  pub taken_run : take (at + run.len) ps ≡ take at ps ++ unrolled run
  taken_run = take-add at run.len ps ∙ ap (λ l. take at ps ++ take run.len l) (sym behind) ∙ ap (λ l. take at ps ++ l) first_picks

  pub picked_run : {A : Type 0} (d : A) (xss : List (List A)) → pick d xss (take (at + run.len) ps) ≡ pick d xss (take at ps) ++ pick d xss (unrolled run)
  picked_run d xss = ap (pick d xss) taken_run ∙ map-append (found d xss) (take at ps) (unrolled run)

  pub run_within : at ≤ length ps → at + run.len ≤ length ps
  run_within inside =
      let long = ap length (sym behind ∙ next) ∙ length-append (unrolled run) rest in
      let some = length-unrolled run in
      omega (arith, long, some, length-drop at ps)

-- A property of all row references is a property of those of the next run.
pub run_all : (P : Option (ℕ × ℕ) → Type 0) (left rest : List (Option (ℕ × ℕ))) (run : Run) → left ≡ unrolled run ++ rest → All P left → All P (unrolled run)
run_all P left rest run next all = All-left P (unrolled run) rest (subst (All P) next all)
