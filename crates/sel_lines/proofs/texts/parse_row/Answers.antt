use Rattle.std.proofs.{Common.◌∙◌, Common.Some, Common.ap, Common.cond, Common.lit<, lemmas.Str.Pattern.strip_prefix_char}
use Rattle.sel_lines.proofs.{Common.Null, Common.string_value, TextViews.text_none}
use Rattle.sel_lines.proofs.texts.parse_row.Goals as goal

pub returns-in-None : goal.returns-in-None
returns-in-None c =
    let other = rw c.in-None.is at (strip_prefix_char 61 c.args.word.now c.strip_prefix.result c.strip_prefix.ensures.cases (lit< tt)) in
    text_none c.args.word.now other ∙ ap (λ b. cond b (Some Null) (string_value c.args.word.now)) c.if-eq.ensures
