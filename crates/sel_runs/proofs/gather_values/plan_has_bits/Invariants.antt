-- The row references so far pass the test.
use Rattle.sel_runs.proofs.{Common.map, Common.option_copied, Common.HasBit}
use Rattle.sel_runs.proofs.PlanTests.{IsTested}
use Rattle.sel_runs.proofs.gather_values.plan_has_bits.Given as goal

abbrev pub invariant-loop-left : goal.invariant-loop-left
invariant-loop-left g l = IsTested (HasBit (map option_copied l.maps)) (g.P.Plan.picks l.plan) (g.P.Plan.picks l.rest) l.left

abbrev pub decreases-loop-left : goal.decreases-loop-left
decreases-loop-left g l = l.left
