use Rattle.std.proofs.Common.{◌≡◌, map, take, string_bytes}
use Rattle.sel_lines.proofs.Common.{join_with_byte, row_text}
use Rattle.sel_lines.proofs.columns.print_rows.Given as goal

abbrev pub invariant-loop-place : goal.invariant-loop-place
invariant-loop-place g l = string_bytes l.text ≡ join_with_byte 44 (map row_text (take l.place (g.C.Array.rows l.column)))
