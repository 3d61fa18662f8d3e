use Rattle.std.proofs.Common.{ap, replicate, sym, take, ◌++◌, ◌∙◌}
use Rattle.std.proofs.lemmas.List.Concat.{flat_map-append}
use Rattle.sel_text.proofs.{Common.block_in, Common.flat_map, Common.item_value, Common.rows_repeated, RowRuns.rows_more}
use Rattle.sel_text.proofs.build.entries_of.Goals as goal

pub loop-run-preserved : goal.loop-run-preserved
loop-run-preserved c = λ none.
    let run = c.run-item.result in
    let block = block_in c.args.size in
    let here = replicate run.times (item_value run.item.now) in
    let before = rows_repeated (take c.loop-run.run-index c.args.items.now) in
    let more = rows_more c.args.items.now c.loop-run.run-index run c.loop-run-test.true c.run-item.is in
    c.in_default.ensures.entries none ∙ ap (λ l. l ++ flat_map block here) (c.loop-run.invariant none) ∙ sym (ap (flat_map block) more.1 ∙ flat_map-append block before here)
