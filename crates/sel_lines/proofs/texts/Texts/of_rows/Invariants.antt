use Rattle.std.proofs.Common.{map, take}
use Rattle.sel_lines.{specs.Parts.text_row, proofs.TextViews.Growing}
use Rattle.sel_lines.proofs.texts.Texts.of_rows.Given as goal

abbrev pub invariant-loop-row : goal.invariant-loop-row
invariant-loop-row l = Growing l.bytes.items l.views.items l.validity.items (map text_row (take l.row-index l.rows))
