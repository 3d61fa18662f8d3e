-- Row references to valid rows, for the internal steps of a take.
use Rattle.std.specs.Prelude.{ℕ, Bool, true, false, List, Option, Some, None, slice_index_or}
use Rattle.std.specs.Prelude.{if◌then◌else◌}
use Rattle.sel_bits.specs.Bits.{Bits}
use Rattle.sel_bits.specs.Validity.{valid_at}
use Rattle.sel_arrow.specs.Value.{Value, Null}
use Rattle.sel_kernels.specs.Pick.{pick_of}

-- Whether a row reference into a single column is not none and refers to a valid row.
abbrev pub valid_pick : Option Bits → Option (ℕ × ℕ) → Bool
valid_pick validity None = false
valid_pick validity (Some p) = valid_at validity p.1

-- The index, or null if it does not refer to a valid row.
abbrev pub live_index : Option Bits → Value → Value
live_index validity index = if valid_pick validity (pick_of index) then index else Null

-- Bit k, or true without bits.
abbrev pub bit_or_true : Option (List Bool) → ℕ → Bool
bit_or_true None k = true
bit_or_true (Some bits) k = slice_index_or bits k false
