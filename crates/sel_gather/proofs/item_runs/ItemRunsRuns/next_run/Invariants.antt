-- The lists so far have no items before those of the run.
use Rattle.sel_gather.proofs.Common.{◌≡◌, ◌++◌, length, items_at, unrolled}
use Rattle.sel_gather.proofs.item_runs.ItemRunsRuns.next_run.Given as goal

abbrev pub invariant-loop-run : goal.invariant-loop-run
invariant-loop-run g l =
    items_at l.initial.self.sources.now l.initial.self.width (g.P.Plan.picks l.initial.self.lists) ≡ unrolled l.run ++ items_at l.self.sources.now l.self.width (g.P.Plan.picks l.self.lists)

abbrev pub decreases-loop-run : goal.decreases-loop-run
decreases-loop-run g l = length (g.P.Plan.picks l.self.lists)
