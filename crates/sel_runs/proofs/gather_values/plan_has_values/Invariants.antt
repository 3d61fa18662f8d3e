-- The row references so far pass the test.
use Rattle.sel_runs.proofs.{Common.map, Common.PickFits}
use Rattle.sel_runs.proofs.PlanTests.{IsTested}
use Rattle.sel_runs.proofs.gather_values.plan_has_values.Given as goal

abbrev pub invariant-loop-left : goal.invariant-loop-left
invariant-loop-left g l = IsTested (PickFits (map (λ s. s.values.now) l.parts)) (g.P.Plan.picks l.plan) (g.P.Plan.picks l.rest) l.left

abbrev pub decreases-loop-left : goal.decreases-loop-left
decreases-loop-left g l = l.left
