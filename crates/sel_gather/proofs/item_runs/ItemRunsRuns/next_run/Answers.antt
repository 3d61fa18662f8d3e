use Rattle.sel_gather.proofs.{Common.All-head, Common.All-tail, Common.IsRow, ItemRuns.rows_of, ItemPicks.lists_left, ItemPicks.next_list, ItemPicks.row_fits}
use Rattle.sel_gather.proofs.item_runs.ItemRunsRuns.next_run.Goals as goal

pub next-requires : goal.next-requires
next-requires g c =
    let s = c.loop-run.self in
    lists_left s.sources.now s.width _ (g.P.Plan.picks s.lists) c.loop-run.run c.loop-run-test.true c.loop-run.invariant c.requires

pub loop-run-preserved : goal.loop-run-preserved
loop-run-preserved g c =
    let s = c.loop-run.self in
    next_list s.sources.now s.width _ (g.P.Plan.picks s.lists) c.loop-run.run c.loop-run-test.true c.loop-run.invariant _ _ _ c.next.ensures c.run_of_list-run.ensures

pub run_of_list-run-requires-clause-fits : goal.run_of_list-run-requires-clause-fits
run_of_list-run-requires-clause-fits g c =
    let s = c.loop-run.self in
    row_fits (rows_of s.sources.now) _ (All-head (IsRow (rows_of s.sources.now)) _ _ (rw c.next.ensures at s.fits))

pub invariant_of-self-clause-fits : goal.invariant_of-self-clause-fits
invariant_of-self-clause-fits g c =
    let s = c.loop-run.self in
    All-tail (IsRow (rows_of s.sources.now)) _ _ (rw c.next.ensures at s.fits)
