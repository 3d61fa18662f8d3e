use Rattle.std.proofs.lemmas.Result.{IfOk-weaker}
use Rattle.sel_arrow.specs.Columns.{primitive_rows}
use Rattle.sel_lines.proofs.RowLemmas.{printed_rows}
use Rattle.sel_lines.proofs.choose.answer_rows.Goals as goal

pub returns : goal.returns
returns c = IfOk-weaker c.print_computed.result _ _ (λ _ is. printed_rows (λ column. primitive_rows column) c.choose_rows.result _ _ is c.choose_rows.ensures.rows) c.print_computed.ensures
