-- Runs whose rows exist, their number of rows, and columns of one type.
use Rattle.sel_gather.proofs.Common.{All-map, range_with_len, get_or-range_with_len, length-range_with_len, ◌≡◌, All, Bor, subst, ℕ, ◌<◌, ◌≤◌, ◌+◌, List, []}
use Rattle.sel_gather.proofs.Common.{◌∷◌, map, length, get_or, take, refl, sym, ap, ◌∙◌, arith, Option, Some, Bool, true, false, ◌↔◌, nat_le, All-append}
use Rattle.sel_gather.proofs.Common.{take_all, length-map, get_or-map, leb-true, le-leb, slice_get, rows, type_of, Column, Run, PickFits, expand, unrolled}
use Rattle.sel_gather.proofs.Common.{picks_of, unrolled_from, first_type}
use Rattle.std.proofs.{Common.IsTrue, lemmas.Option.get_or_from_slice_get}
use Rattle.sel_runs.proofs.RunLists.{run_at, expand_more, all_at, run_there}

-- A property of the row references so far and of those of the next run.
pub all_more : (P : Option (ℕ × ℕ) → Type 0) (rs : List Run) (i : ℕ) → i < length rs → All P (expand (take i rs)) → All P (unrolled (run_at rs i)) → All P (expand (take (i + 1) rs))
all_more P rs i inside so_far next = subst (All P) (sym (expand_more rs i inside)) (All-append P (expand (take i rs)) (unrolled (run_at rs i)) so_far next)

pub rows_fit : {A : Type 0} (xss : List (List A)) (s a n : ℕ) → a + n ≤ length (get_or xss s []) → All (PickFits xss) (picks_of s a n)
rows_fit xss s a n inside = All-map (PickFits xss) (λ i. Some (s, i)) (range_with_len a n)
    (λ k d h. let small : k < n = omega (arith, h, length-range_with_len a n) in omega (arith, inside, small, get_or-range_with_len a n k d small))

-- A run within the rows of its source fits.
inside_fits : {A : Type 0} (xss : List (List A)) (r : Run) (s : ℕ) → r.source ≡ Some s → r.start + r.len ≤ length (get_or xss s []) → All (PickFits xss) (unrolled r)
inside_fits xss r s is inside = subst (λ o. All (PickFits xss) (unrolled_from o r.start r.len)) (sym is) (rows_fit xss s r.start r.len inside)

-- The type of the first column.
pub first_type_is : (cs : List (Bor Column)) (first : Bor Column) → Some first ≡ slice_get cs 0 → type_of first.now ≡ first_type (map (λ c. c.now) cs)
first_type_is [] first is = absurd cc
first_type_is (c ∷ cs) first is = ap (λ (x : Bor Column). type_of x.now) (sym (get_or_from_slice_get (c ∷ cs) 0 first c (sym is)))

-- A run that does not fit.
pub run_refused : (P : Option (ℕ × ℕ) → Type 0) (rs : List Run) (i : ℕ) (b : Bool) → i < length rs → (IsTrue b ↔ All P (unrolled (run_at rs i))) → b ≡ false → (IsTrue false ↔ All P (expand rs))
run_refused P rs i b inside fits off = (λ never. absurd cc, λ all. sym off ∙ fits.1 (all_at P rs i inside all))

-- Every run fits.
pub runs_done : (P : Option (ℕ × ℕ) → Type 0) (rs : List Run) (i : ℕ) → length rs ≤ i → All P (expand (take i rs)) → (IsTrue true ↔ All P (expand rs))
runs_done P rs i done fits = (λ yes. subst (λ l. All P (expand l)) (take_all i rs done) fits, λ all. refl)

-- ---- the source of a run

pub source_rows : (cs : List (Bor Column)) (s n : ℕ) (c : Bor Column) → s < length cs → c ≡ get_or cs s c → n ≡ length (rows c.now) → length (get_or (map (λ x. rows x.now) cs) s []) ≡ n
source_rows cs s n c inside is long = ap length (get_or-map (λ x. rows x.now) cs s c [] inside ∙ ap (λ (x : Bor Column). rows x.now) (sym is)) ∙ sym long

-- A run of at least one row fits exactly if it is within the rows of its source.
pub run_fits_if : {A : Type 0} (xss : List (List A)) (r : Run) (s n : ℕ) → r.source ≡ Some s → (r.len ≡ 0 → ⊥) → length (get_or xss s []) ≡ n → (IsTrue (nat_le (r.start + r.len) n) ↔ All (PickFits xss) (unrolled r))
run_fits_if xss r s n is some long = (
  λ yes. inside_fits xss r s is (let h = leb-true (r.start + r.len) n yes in omega (arith, h, long)),
  λ all. let there = run_there xss r s is some all in le-leb (r.start + r.len) n (omega (arith, there.1, long)),
)

-- It does not fit if there is no such source.
pub run_lost : (cs : List (Bor Column)) (r : Run) (s : ℕ) → r.source ≡ Some s → (r.len ≡ 0 → ⊥) → length cs ≤ s → (IsTrue false ↔ All (PickFits (map (λ c. rows c.now) cs)) (unrolled r))
run_lost cs r s is some gone = (
  λ never. absurd cc,
  λ all. let there = run_there (map (λ c. rows c.now) cs) r s is some all in absurd (omega (arith, there.0, gone, length-map cs (λ c. rows c.now))),
)
