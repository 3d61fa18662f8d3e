use Rattle.std.specs.Prelude.{option_map}
use Rattle.std.proofs.lemmas.Result.{IfOk-weaker}
use Rattle.sel_arrow.specs.Columns.{primitive_rows}
use Rattle.sel_lines.specs.Columns.{column_text}
use Rattle.sel_lines.proofs.RowLemmas.{printed_as}
use Rattle.sel_lines.proofs.take.answer_rows.Goals as goal

pub returns : goal.returns
returns c =
    IfOk-weaker c.print_computed.result _ _
    (λ _ is. printed_as c.take_rows.result (option_map (λ column. column_text (primitive_rows column))) _ _ is c.take_rows.ensures.rows)
    c.print_computed.ensures
