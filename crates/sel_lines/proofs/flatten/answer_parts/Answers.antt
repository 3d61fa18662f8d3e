use Rattle.std.proofs.Common.{◌∙◌, Some, ap, sym, option_map}
use Rattle.sel_lines.proofs.{Common.primitive_rows, Common.flat_text, Flattened.answer_read, Flattened.column_flat_text}
use Rattle.sel_arrow.proofs.Rows.{length-number_rows}
use Rattle.sel_lines.proofs.flatten.answer_parts.Goals as goal

pub returns-in_ok-print_column-in-Ok-Some : goal.returns-in_ok-print_column-in-Ok-Some
returns-in_ok-print_column-in-Ok-Some c =
    let vs = primitive_rows c.in-Ok-Some.flat in
    let few = column_flat_text vs (rw length-number_rows c.in-Ok-Some.flat.rows_fit) in
    let flat = rw c.in-Ok-Some.field-0-is at c.in-Ok-Some.ensures.rows in
    ap Some (c.in_ok-print_column-in-Ok-Some.ensures ∙ sym few) ∙ ap (option_map flat_text) flat ∙ answer_read c.args.height c.args.parts.items
