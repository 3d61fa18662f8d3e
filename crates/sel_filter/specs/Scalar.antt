-- The rows of a mask before a byte boundary.
use Rattle.std.specs.Prelude.{ℕ, zero, suc, ◌-◌, ◌%◌, min, length}
use Rattle.sel_bits.specs.Bits.{Bits}

-- The number of rows before the next byte boundary, of n rows whose first one is at this bit
-- position of its byte; 0 for position 0.
abbrev pub up_to_boundary : ℕ → ℕ → ℕ
up_to_boundary zero n = 0
up_to_boundary (suc place) n = min n (8 - suc place)

-- The number of rows of a mask before its next byte boundary; 0 if it begins at one.
abbrev pub rows_to_boundary : Bits → ℕ
rows_to_boundary mask = up_to_boundary (mask.offset % 8) (length mask.bits)
