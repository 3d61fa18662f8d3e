use Rattle.std.proofs.Common.{sym, arith, ap, ◌∙◌, Some, length, length-append, ◌++◌, ◌∷◌, [], ◌+◌}
use Rattle.sel_lines.proofs.{Common.row_of, RowLemmas.rows_step, RowLemmas.hidden_more}
use Rattle.sel_lines.proofs.columns.parse_rows.Goals as goal

pub loop-word-preserved : goal.loop-word-preserved
loop-word-preserved g c =
    let flag = c.in_ok-push-2.ensures.items ∙ ap (λ b. c.loop-word.validity.items ++ (b ∷ [])) c.is_some.ensures in
    let item = c.in_ok-push.ensures.items ∙ ap (λ x. c.loop-word.values.items ++ (x ∷ [])) c.unwrap_or.ensures in
    let more = hidden_more g.T.Item.shown c.loop-word.validity.items c.push-in-loop-word.new.self.items c.loop-word.values.items c.push.new.self.items
    c.in-Some.row c.BENEATH_NULL.result (c.loop-word.invariant.flags ∙ sym c.loop-word.invariant.items) flag item in
    record {
      rows = rows_step (λ word. row_of g.T.Item.value_of word.now) c.args.words.now c.loop-word.word-index _ _ _ (omega arith) c.loop-word.invariant.rows (sym c.in-Some.ensures) ∙ ap Some more;
      items = ap length item ∙ length-append c.loop-word.values.items _ ∙ ap (λ n. n + 1) c.loop-word.invariant.items;
      flags = ap length flag ∙ length-append c.loop-word.validity.items _ ∙ ap (λ n. n + 1) c.loop-word.invariant.flags;
    }
