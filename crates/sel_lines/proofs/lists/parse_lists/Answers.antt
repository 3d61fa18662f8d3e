use Rattle.std.proofs.Common.{◌==◌, subst}
use Rattle.sel_lines.proofs.{Common.IfOk-weaker, Common.list_of_word, Common.IsReading, RowLemmas.parts_read}
use Rattle.sel_lines.proofs.lists.parse_lists.Goals as goal

pub returns : goal.returns
returns c =
    IfOk-weaker c.parse_each.result _ _
    (λ lists made. subst (λ rows. IsReading rows lists)
    (parts_read list_of_word (λ b. b == 124) _ c.args.word.now _ _ c.if-eq.ensures
    c.deref.ensures.value c.in_ok-words.ensures.parts) made) c.parse_each.ensures
