use Rattle.std.proofs.Common.{ap, map, replicate, sym, take, ◌++◌, ◌∙◌}
use Rattle.sel_text.proofs.{Common.item_value, Common.map-append, Common.part_in, Common.rows_repeated, RowRuns.map_same, RowRuns.rows_more, RowRuns.rows_with}
use Rattle.sel_text.proofs.build.parts_at.Goals as goal

pub loop-run-preserved : goal.loop-run-preserved
loop-run-preserved c = λ none.
    let run = c.run-item.result in
    let part = part_in c.args.place in
    let row = item_value run.item.now in
    let before = rows_repeated (take c.loop-run.run-index c.args.items.now) in
    let more = rows_more c.args.items.now c.loop-run.run-index run c.loop-run-test.true c.run-item.is in
    ap rows_repeated c.in_ok-push.ensures.items ∙ rows_with c.loop-run.parts.items _ ∙ ap (λ l. l ++ replicate run.times (item_value c.part_at-item.result.now)) (c.loop-run.invariant none)
    ∙ ap (λ v. map part before ++ replicate run.times v) (c.part_at-item.ensures none)
    ∙ sym (ap (map part) more.1 ∙ map-append part before (replicate run.times row) ∙ ap (λ l. map part before ++ l) (map_same part run.times row))
