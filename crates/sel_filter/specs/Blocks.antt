-- The values that a packed mask keeps, by blocks of 64 rows.
use Rattle.std.specs.Prelude.{ℕ, ◌*◌, List, length, take}
use Rattle.sel_bits.specs.Bits.{bits_from}
use Rattle.sel_filter.specs.Select.{select}

-- The values of the first `count` blocks whose bit is set. Bit 0 of the first byte belongs to the
-- first value.
abbrev pub kept_of_blocks : {A : Type 0} → List A → List ℕ → ℕ → List A
kept_of_blocks values bytes count =
    select (take (64 * count) values) (take (64 * count) (bits_from bytes 0 (length values)))
