-- The output for `table MASK IDX COL ...`.
use Rattle.std.specs.Prelude.{ℕ, List, ◌∷◌, map, Option, None, Some, option_map, if◌then◌else◌}
use Rattle.std.specs.List.{join_with_byte}
use Rattle.sel_arrow.specs.Value.{Value}
use Rattle.sel_lines.specs.Columns.{all_some, column_of, column_text}
use Rattle.sel_lines.specs.Numbers.{index_of, number_of, truth_of}
use Rattle.sel_kernels.specs.SelectRows.{select_rows_of, selection_fits}
use Rattle.sel_lines.specs.Words.{if_both}

-- For each column the rows at the indices among those that the mask selects; none if a length does
-- not match or an index is out of bounds.
abbrev pub selected_rows : List Value → List Value → List (List Value) → Option (List (List Value))
selected_rows mask indices columns =
    if selection_fits columns mask indices then Some (select_rows_of columns mask indices) else None

-- Columns, printed, separated by spaces.
abbrev pub columns_text : List (List Value) → List ℕ
columns_text columns = join_with_byte 32 (map column_text columns)

-- The selected rows of each column, printed.
abbrev pub table_answer : List Value → List Value → List (List Value) → Option (List ℕ)
table_answer mask indices columns = option_map columns_text (selected_rows mask indices columns)

-- The output for a mask, indices and columns; none if one of them is none.
abbrev pub table_read : Option (List Value) → Option (List Value) → Option (List (List Value)) →
    Option (List ℕ)
table_read None indices columns = None
table_read (Some mask) indices columns = if_both (table_answer mask) indices columns

-- The output for the arguments of `table`, which include at least one column.
abbrev pub table_words : List (List ℕ) → Option (List ℕ)
table_words (mask ∷ indices ∷ column ∷ columns) =
    table_read (column_of truth_of mask) (column_of index_of indices)
    (all_some (map (column_of number_of) (column ∷ columns)))
table_words _ = None
