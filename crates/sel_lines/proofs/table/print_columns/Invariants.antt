-- Loop invariant: the columns so far, printed.
use Rattle.std.proofs.Common.{◌≡◌, map, take, string_bytes}
use Rattle.sel_lines.proofs.Common.{join_with_byte, rows_of_arrays, column_text}
use Rattle.sel_lines.proofs.table.print_columns.Given as goal

abbrev pub invariant-loop-place : goal.invariant-loop-place
invariant-loop-place l = string_bytes l.text ≡ join_with_byte 32 (map column_text (take l.place (rows_of_arrays l.columns)))
