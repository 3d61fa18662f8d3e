use Rattle.sel_runs.proofs.{Common.rules, RunLists.counted_more}
use Rattle.sel_runs.proofs.runs.picked_rows.Goals as goal

pub loop-run-preserved : goal.loop-run-preserved
loop-run-preserved c = (counted_more c.args.runs.now c.loop-run.run-index c.loop-run.count c.loop-run-test.true c.loop-run.invariant.0, search rules)
