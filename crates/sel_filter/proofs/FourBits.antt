-- The table for four bits under a mask of four bits, checked entry by entry by computation.
use Rattle.sel_filter.proofs.Common.{◌≡◌, ℕ, zero, suc, ◌+◌, ◌*◌, ◌/◌, ◌%◌, ◌<◌, ◌∙◌, sym, refl, ap, arith, List, length, get_or, Bool, true}
use Rattle.sel_filter.proofs.Common.{◌==◌, count_ones, bits, word_of, select, NIBBLES}
use Rattle.std.proofs.Common.{◌&&◌}
use Rattle.std.proofs.lemmas.Bool.{eqb-true, and_parts}

abbrev holds_below : (ℕ → Bool) → ℕ → Bool
holds_below p zero = true
holds_below p (suc n) = p n && holds_below p n

holds_at : (p : ℕ → Bool) (n j : ℕ) → holds_below p n ≡ true → j < n → p j ≡ true
holds_at p zero j all lt = absurd (omega arith)
holds_at p (suc n) j all lt = let both = and_parts (p n) (holds_below p n) all in grind (arith, both.0, holds_at p n j both.1)

-- The kept bits of a table entry.
abbrev pub kept_four : ℕ → ℕ → List Bool
kept_four v m = select (bits 4 v) (bits 4 m)

all_entries : holds_below (λ j. get_or NIBBLES j 0 == word_of (kept_four (j % 16) (j / 16))) 256 ≡ true
unfolding bits
all_entries = refl

all_counts : holds_below (λ j. count_ones (j / 16) == length (kept_four (j % 16) (j / 16))) 256 ≡ true
unfolding bits lib.Count.ones
all_counts = refl

pub entry_is : (v m : ℕ) → v < 16 → m < 16 → get_or NIBBLES (16 * m + v) 0 ≡ word_of (kept_four v m)
entry_is v m lv lm =
    let low : (16 * m + v) % 16 ≡ v = omega arith in
    let high : (16 * m + v) / 16 ≡ m = omega arith in
    eqb-true _ _ (holds_at (λ j. get_or NIBBLES j 0 == word_of (kept_four (j % 16) (j / 16))) 256 (16 * m + v) all_entries (omega arith))
    ∙ (λ i. word_of (kept_four (low i) (high i)))

pub count_is : (v m : ℕ) → v < 16 → m < 16 → count_ones m ≡ length (kept_four v m)
count_is v m lv lm =
    let low : (16 * m + v) % 16 ≡ v = omega arith in
    let high : (16 * m + v) / 16 ≡ m = omega arith in
    ap count_ones (sym high)
    ∙ eqb-true _ _ (holds_at (λ j. count_ones (j / 16) == length (kept_four (j % 16) (j / 16))) 256 (16 * m + v) all_counts (omega arith))
    ∙ (λ i. length (kept_four (low i) (high i)))
