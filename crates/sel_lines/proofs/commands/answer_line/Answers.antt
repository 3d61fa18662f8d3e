use Rattle.std.proofs.Common.{◌∙◌, ap, map, arith, ◌==◌}
use Rattle.sel_lines.{proofs.Common.IfOk-weaker, proofs.Common.slice_split, specs.Commands.answer_of_words, proofs.Answered.of_text}
use Rattle.sel_lines.proofs.commands.answer_line.Goals as goal

pub returns : goal.returns
returns c = let text = c.in-Ok.ensures.cases in
    let cut = ap (map (λ part. part.now)) c.deref.ensures.value ∙ c.in_ok-words.ensures.parts in
    IfOk-weaker c.answer_words.result _ _ (λ answer made. made ∙ ap answer_of_words (cut ∙ ap (slice_split (λ b. b == 32)) text.0) ∙ of_text c.args.line.now (omega arith) text.1) c.answer_words.ensures
