-- The parts of fixed-size list columns, for the internal steps of a filter.
use Rattle.std.specs.Prelude.{◌≡◌, ℕ, Option}
use Rattle.sel_bits.specs.Bits.{Bits}
use Rattle.sel_arrow.specs.declared.column.Column.{Column}
use Rattle.sel_arrow.specs.declared.column.Column.TheVariants.{FixedSizeList'}

-- The column is one of fixed-size lists with this size, child and validity.
abbrev pub IsFixedSizeList : Column → ℕ → Column → Option Bits → Type 0
IsFixedSizeList (FixedSizeList' size len p values validity) width child valid =
    (size ≡ width) × (values ≡ child) × (validity ≡ valid)
IsFixedSizeList column width child valid = ⊥
