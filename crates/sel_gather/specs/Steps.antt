-- What functions of this crate state of each other; no public contract has these words.
use Rattle.std.specs.Prelude.{ℕ, List, map, ⊤, [], ◌∷◌, Option}
use Rattle.std.specs.List.{range_with_len}
use Rattle.std.specs.Borrow.{Bor}
use Rattle.sel_bits.specs.declared.native.NativeType.{Ghosts}
use Rattle.sel_bits.specs.Bits.{Bits}
use Rattle.sel_arrow.specs.Value.{Value, Null}
use Rattle.sel_arrow.specs.Columns.{binary_rows}
use Rattle.sel_arrow.specs.Rows.{rows, type_of}
use Rattle.sel_arrow.specs.declared.binary.BinaryArray.{BinaryArray}
use Rattle.sel_arrow.specs.declared.column.Column.{Column}
use Rattle.sel_arrow.specs.Nulls.{IsValidityOf}
use Rattle.sel_gather.specs.Children.{part_at, child}
use Rattle.sel_runs.specs.Picks.{pick}

-- The first n values of struct values, field by field.
abbrev pub parts_of : ℕ → List Value → List (List Value)
parts_of n rows = map (λ j. map (part_at j) rows) (range_with_len 0 n)

-- The rows of the child of each column.
abbrev pub child_rows : List (Bor Column) → List (List Value)
child_rows sources = map (λ c. rows (child c.now)) sources

-- The rows of each binary column.
abbrev pub binaries : {O : Type 0} {type : Ghosts O}
    → List (Bor (BinaryArray O type)) → List (List Value)
binaries sources = map (λ s. binary_rows s.now) sources

-- The rows of binary columns at row references; null for none.
abbrev pub picked_bytes : {O : Type 0} {type : Ghosts O}
    → List (Bor (BinaryArray O type)) → List (Option (ℕ × ℕ)) → List Value
picked_bytes sources picks = pick Null (binaries sources) picks

-- Each entry is the validity of the column at the same position (Arrow columnar format: validity
-- bitmaps).
abbrev pub AreValidities : List (Option Bits) → List Column → Type 0
AreValidities [] [] = ⊤
AreValidities (v ∷ vs) (column ∷ columns) =
    IsValidityOf (type_of column) v (rows column) × AreValidities vs columns
AreValidities _ _ = ⊥
