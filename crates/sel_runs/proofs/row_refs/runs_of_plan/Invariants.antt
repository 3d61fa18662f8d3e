use Rattle.sel_runs.proofs.Common.{◌≡◌, ◌++◌, length, expand}
use Rattle.sel_runs.proofs.row_refs.runs_of_plan.Given as goal

abbrev pub invariant-loop-left : goal.invariant-loop-left
invariant-loop-left g l = record {
  picks : expand l.runs.items ++ g.P.Plan.picks l.rest ≡ g.P.Plan.picks l.plan;
  count : l.left ≡ length (g.P.Plan.picks l.rest);
}

abbrev pub decreases-loop-left : goal.decreases-loop-left
decreases-loop-left g l = l.left
