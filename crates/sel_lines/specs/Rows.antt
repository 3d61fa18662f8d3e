-- Parsed rows.
use Rattle.std.specs.Prelude.{List, map, Option, None, Some}
use Rattle.sel_arrow.specs.Masked.{hidden}
use Rattle.sel_arrow.specs.Value.{Value, Null}
use Rattle.sel_lines.specs.declared.rows.Rows.{Rows}

-- An optional item as a row.
abbrev pub shown_row : {T : Type 0} → (T → Value) → Option T → Value
shown_row shown None = Null
shown_row shown (Some item) = shown item

-- Items as rows; null if they are not valid.
abbrev pub parsed_rows : {T : Type 0} → (T → Value) → Rows T → List Value
parsed_rows shown rows = hidden rows.validity.items (map shown rows.values.items)
