-- The row references of a horizontal flatten.
use Rattle.std.specs.Prelude.{◌≡◌, ℕ, zero, suc, ◌+◌, ◌-◌, ◌*◌, ◌<◌, ◌==◌, All, List, [], ◌∷◌, ◌++◌}
use Rattle.std.specs.Prelude.{length, drop, Option, IsSome, if◌then◌else◌}
use Rattle.std.specs.Option.{ForSome}
use Rattle.sel_bits.specs.Limits.{max_rows}
use Rattle.sel_runs.specs.Runs.{picks_of}
use Rattle.sel_kernels.specs.declared.lanes.Lane.{Lane}

-- The entries that each row has of a list with n entries: w of them, which are the next w for each
-- next row, or always the same if n is w.
abbrev pub lane_of : ℕ → ℕ → Lane
lane_of n w = record { width = w; step = if n == w then 0 else w }

-- The lane of each list.
abbrev pub lanes_of : {A : Type 0} → List (List A) → List ℕ → List Lane
lanes_of [] ws = []
lanes_of (xs ∷ xss) [] = []
lanes_of (xs ∷ xss) (w ∷ ws) = lane_of (length xs) w ∷ lanes_of xss ws

-- The row references of row r for these lanes, the first of which has source s.
abbrev pub row_picks : ℕ → ℕ → List Lane → List (Option (ℕ × ℕ))
row_picks r s [] = []
row_picks r s (lane ∷ lanes) = picks_of s (r * lane.step) lane.width ++ row_picks r (s + 1) lanes

-- The row references of n rows from row r on.
abbrev pub rows_picks : ℕ → ℕ → List Lane → List (Option (ℕ × ℕ))
rows_picks r zero lanes = []
rows_picks r (suc n) lanes = row_picks r 0 lanes ++ rows_picks (r + 1) n lanes

-- The row references from lane j of row r on, of n rows.
abbrev pub picks_from : ℕ → ℕ → ℕ → List Lane → List (Option (ℕ × ℕ))
picks_from j r n lanes = row_picks r j (drop j lanes) ++ rows_picks (r + 1) (n - (r + 1)) lanes

-- The remaining row references: `part` rows of source j from row `at` on, then those from the next
-- lane of row r on, of n rows.
abbrev pub left_picks : ℕ → ℕ → ℕ → ℕ → ℕ → List Lane → List (Option (ℕ × ℕ))
left_picks j at part r n lanes = picks_of j at part ++ picks_from (j + 1) r n lanes

-- The row reference is not none, and its source and its row are less than 2^32 - 1.
abbrev pub IsReference : Option (ℕ × ℕ) → Type 0
IsReference pick = IsSome pick × ForSome pick (λ p. (p.0 < max_rows) × (p.1 < max_rows))

-- What is left of an iteration over the rows of these lanes: `left` row references, which are
-- `picks`. No lane is empty, and each row reference is in range.
pub record HasLeft (lanes : List Lane) (left : ℕ) (picks : List (Option (ℕ × ℕ))) : Type 0 where
  pub wide : All (λ lane. 0 < lane.width) lanes
  pub references : All IsReference picks
  pub counted : left ≡ length picks
