use Rattle.sel_runs.proofs.Common.{◌≡◌, ◌≤◌, take, drop, map, vec_len, vec_capacity, pick}
use Rattle.sel_runs.proofs.gather_values.gather_values.Given as goal

abbrev pub invariant-loop-k : goal.invariant-loop-k
invariant-loop-k g l = record {
  values : l.values.items ≡ pick l.zero (map (λ s. s.values.now) l.parts) (take l.k (g.P.Plan.picks l.plan));
  rest : g.P.Plan.picks l.rest ≡ drop l.k (g.P.Plan.picks l.plan);
  count : vec_len l.values ≡ l.k;
  room : l.len ≤ vec_capacity l.values;
}
