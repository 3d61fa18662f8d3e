use Rattle.std.proofs.Common.{◌∙◌, ◌==◌}
use Rattle.sel_lines.proofs.{Common.IfOk-weaker, Common.row_of, RowLemmas.parts_read}
use Rattle.sel_lines.proofs.columns.parse_column.Goals as goal

pub returns : goal.returns
returns g c =
    IfOk-weaker c.parse_rows.result _ _
    (λ rows made. made ∙ parts_read (row_of g.T.Item.value_of) (λ b. b == 44) _ c.args.word.now _ _ c.if-eq.ensures
    c.deref.ensures.value c.in_ok-words.ensures.parts)
    c.parse_rows.ensures
