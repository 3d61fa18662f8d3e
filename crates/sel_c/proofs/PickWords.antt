-- The row references in words.
use Rattle.std.proofs.lemmas.Grind.{common_steps}
use Rattle.std.proofs.Common.{◌≡◌, ℕ, zero, suc, ◌+◌, ◌<◌, All, List, [], ◌∷◌, length, map, get_or, refl, ap, ◌∙◌, arith, false, Option, Some, None}
use Rattle.std.specs.Option.{is_some, ForSome}
use Rattle.sel_c.proofs.Common.{All-nil, All-cons, Bits, Covers, valid_at, rows, ArrayRef, PickFits, HasRow, pick_in, picks_from}
use Rattle.sel_runs.specs.Plans.{IsPicked}
use Rattle.sel_c.specs.declared.calls.several.PickWords.{PickWords}

at : (i k : ℕ) (validity : Option Bits) (words : List PickWords) (w : PickWords) (d : Option (ℕ × ℕ)) → k < length words → get_or (picks_from i validity words) k d ≡ pick_in (get_or words k w) (valid_at validity (i + k))
at i k validity [] w d below = absurd (omega (arith, below))
at i zero validity (first ∷ words) w d below = grind (arith)
at i (suc k) validity (first ∷ words) w d below = grind (arith, (at (i + 1) k validity words w d (omega (arith, below))))

-- The row reference at a position.
pub picks_at : (k : ℕ) (validity : Option Bits) (words : List PickWords) (w : PickWords) (d : Option (ℕ × ℕ)) → k < length words → get_or (picks_from 0 validity words) k d ≡ pick_in (get_or words k w) (valid_at validity k)
picks_at k validity words w d below =
    let place : 0 + k ≡ k = omega arith in
    at 0 k validity words w d below ∙ ap (λ n. pick_in (get_or words k w) (valid_at validity n)) place

-- A validity has a bit for each row.
pub covered : (validity : Option Bits) (n k : ℕ) → Covers validity n → k < n → ForSome validity (λ v. k < length v.bits)
covered validity n k covers below v is = omega (arith, covers v is, below)

pub is_gone : {A : Type 0} (o : Option A) → is_some o ≡ false → o ≡ None
is_gone o e = grind (arith, common_steps)

-- As many row references as words.
pub picks_long : (i : ℕ) (validity : Option Bits) (words : List PickWords) → length (picks_from i validity words) ≡ length words
picks_long i validity [] = refl
picks_long i validity (w ∷ words) = ap suc (picks_long (i + 1) validity words)

-- Without a validity, no row reference is null.
pub words_picked : (i : ℕ) (words : List PickWords) → All IsPicked (picks_from i None words)
words_picked i [] = All-nil IsPicked
words_picked i (w ∷ words) = All-cons IsPicked (Some (w.source, w.row)) (picks_from (i + 1) None words) tt (words_picked (i + 1) words)

-- ---- columns of known lengths

abbrev lengths : List ArrayRef → List ℕ
lengths arrays = map (λ array. length (rows array.column)) arrays

length_at : (arrays : List ArrayRef) (s : ℕ) → get_or (lengths arrays) s 0 ≡ length (get_or (map (λ array. rows array.column) arrays) s [])
length_at [] s = refl
length_at (array ∷ arrays) zero = refl
length_at (array ∷ arrays) (suc s) = length_at arrays s

-- Each row reference is in bounds.
pub rows_fit : (arrays : List ArrayRef) (ps : List (Option (ℕ × ℕ))) {ls : List ℕ} → ls ≡ lengths arrays → All (HasRow ls) ps → All
    (PickFits (map (λ array. rows array.column) arrays)) ps
rows_fit arrays ps same all k d below = grind (arith, common_steps, length_at, all k d below)

pub rows_had : (arrays : List ArrayRef) (ps : List (Option (ℕ × ℕ))) {ls : List ℕ} → ls ≡ lengths arrays → All
    (PickFits (map (λ array. rows array.column) arrays)) ps → All (HasRow ls) ps
rows_had arrays ps same all k d below = grind (arith, common_steps, length_at, all k d below)
