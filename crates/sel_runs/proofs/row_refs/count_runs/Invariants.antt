use Rattle.sel_runs.proofs.Common.{◌≡◌, ◌≤◌, ◌+◌, length}
use Rattle.sel_runs.proofs.row_refs.count_runs.Given as goal

abbrev pub invariant-loop-left : goal.invariant-loop-left
invariant-loop-left g l = record {
  left : l.left ≡ length (g.P.Plan.picks l.rest);
  count : l.count + l.left ≤ length (g.P.Plan.picks l.plan) + 1;
}

abbrev pub decreases-loop-left : goal.decreases-loop-left
decreases-loop-left g l = l.left
