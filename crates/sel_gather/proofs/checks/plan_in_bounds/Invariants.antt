-- The row references so far pass the test.
use Rattle.sel_gather.proofs.{Common.map, Common.rows, Common.PickFits}
use Rattle.sel_runs.proofs.PlanTests.{IsTested}
use Rattle.sel_gather.proofs.checks.plan_in_bounds.Given as goal

abbrev pub invariant-loop-left : goal.invariant-loop-left
invariant-loop-left g l = IsTested (PickFits (map (λ c. rows c.now) l.sources)) (g.P.Plan.picks l.plan) (g.P.Plan.picks l.rest) l.left

abbrev pub decreases-loop-left : goal.decreases-loop-left
decreases-loop-left g l = l.left
