-- The values so far are copied.
use Rattle.sel_runs.proofs.Common.{◌≡◌, ◌≤◌, ◌+◌, ◌-◌, take, drop, map, pick, vec_capacity}
use Rattle.sel_runs.proofs.copy_values.copy_plan.Given as goal

abbrev pub invariant-loop-at : goal.invariant-loop-at
invariant-loop-at g l = record {
  rest : g.P.Plan.picks l.rest ≡ drop l.at (g.P.Plan.picks l.plan);
  within : l.at ≤ l.len;
  room : l.len + 8 ≤ vec_capacity l.values;
  values : l.values.items ≡ pick l.zero (map (λ s. s.values.now) l.parts) (take l.at (g.P.Plan.picks l.plan));
}

abbrev pub decreases-loop-at : goal.decreases-loop-at
decreases-loop-at g l = l.len - l.at
