use Rattle.std.proofs.Common.{ap, sym, ◌++◌, ◌∙◌, ◌∷◌, []}
use Rattle.sel_text.proofs.{Common.item_value, Common.rows_repeated, ItemRows.one_more, RowRuns.rows_with}
use Rattle.sel_text.proofs.row_runs.once_each.Goals as goal

pub loop-item-preserved : goal.loop-item-preserved
loop-item-preserved c =
    let item = c.item-item.result in
    ap rows_repeated c.in_ok-push.ensures.items ∙ rows_with c.loop-item.runs.items _ ∙ ap (λ l. l ++ item_value item.now ∷ []) c.loop-item.invariant
    ∙ sym (one_more c.args.items.now c.loop-item.item-index item c.loop-item-test.true c.item-item.is)
