use Rattle.std.proofs.Common.{◌∙◌, ◌==◌}
use Rattle.sel_lines.proofs.{Common.IfOk-weaker, Common.row_of, Common.string_value, RowLemmas.parts_read}
use Rattle.sel_lines.proofs.texts.parse_rows.Goals as goal

pub returns : goal.returns
returns c =
    IfOk-weaker c.parse_words.result _ _
    (λ rows made. made ∙ parts_read (row_of string_value) (λ b. b == 44) _ c.args.word.now _ _ c.if-eq.ensures
    c.deref.ensures.value c.in_ok-words.ensures.parts)
    c.parse_words.ensures
