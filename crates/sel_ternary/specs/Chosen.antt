-- If-then-else between columns or scalars, which are columns of one row.
use Rattle.std.specs.Prelude.{◌≡◌, ◌≢◌, ◌≤◌, ⊤, ℕ, Bool, true, false, List, length}
use Rattle.std.specs.Prelude.{slice_index_or}
use Rattle.sel_bits.specs.Limits.{max_rows}
use Rattle.sel_arrow.specs.Rows.{rows as column_rows, type_of}
use Rattle.sel_arrow.specs.Value.{Value, Null}
use Rattle.sel_arrow.specs.declared.column.Column.{Column}
use Rattle.sel_ternary.specs.Choose.{choose, broadcast_true, broadcast_false, broadcast_both}

-- The first row; null if there is none.
abbrev pub first_row : List Value → Value
first_row rows = slice_index_or rows 0 Null

-- A column has as many rows as the mask, and a scalar has one.
abbrev pub SideFits : Bool → ℕ → ℕ → Type 0
SideFits true rows mask = rows ≡ mask
SideFits false rows mask = rows ≡ 1

-- Two columns of one type, each with a row for each bit of the mask, or with one row if its flag is
-- false.
pub record AreSides (true_column false_column : Bool) (mask : List Bool)
    (if_true if_false : Column) : Type 0 where
  pub alike : type_of if_true ≡ type_of if_false
  pub true_side : SideFits true_column (length (column_rows if_true)) (length mask)
  pub false_side : SideFits false_column (length (column_rows if_false)) (length mask)
  pub few : length mask ≤ max_rows

-- A scalar is not null.
abbrev pub SideIsValid : Bool → List Value → Type 0
SideIsValid true rows = ⊤
SideIsValid false rows = first_row rows ≢ Null

-- The rows of a column; of a scalar, its row for each bit of the mask.
abbrev pub spread_rows : Bool → List Bool → List Value → List Value
spread_rows true mask vs = vs
spread_rows false mask vs = broadcast_both mask (first_row vs) (first_row vs)

-- The if-then-else of two columns; if its flag is false, the first row of a column is broadcast.
abbrev pub chosen_rows : Bool → Bool → List Bool → List Value → List Value → List Value
chosen_rows true true mask ts fs = choose mask ts fs
chosen_rows true false mask ts fs = broadcast_false mask ts (first_row fs)
chosen_rows false true mask ts fs = broadcast_true mask (first_row ts) fs
chosen_rows false false mask ts fs = broadcast_both mask (first_row ts) (first_row fs)
