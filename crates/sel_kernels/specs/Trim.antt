-- Masks without the false bits at their ends, and masks of consecutive rows.
use Rattle.std.specs.Prelude.{◌≡◌, ◌≤◌, ◌+◌, ℕ, Bool, true, List, length, take, drop, replicate}
use Rattle.sel_arrow.specs.Value.{Value}
use Rattle.sel_kernels.specs.Select.{select}

-- For any rows as long as the mask, filtering those from `leading` on, as many as `rest` has bits,
-- by `rest` equals filtering all rows by the mask.
abbrev pub KeepsAll : List Bool → ℕ → List Bool → Type 0
KeepsAll mask leading rest =
    (xs : List Value) → length xs ≡ length mask →
    select (take (length rest) (drop leading xs)) rest ≡ select xs mask

-- The `count` entries from `first` on are true.
abbrev pub IsRun : List Bool → ℕ → ℕ → Type 0
IsRun mask first count =
    (first + count ≤ length mask) × (take count (drop first mask) ≡ replicate count true)
