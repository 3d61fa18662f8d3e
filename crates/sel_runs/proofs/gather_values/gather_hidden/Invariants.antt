use Rattle.sel_runs.proofs.Common.{◌≡◌, ◌≤◌, ◌-◌, take, drop, map, vec_len, vec_capacity, option_copied, pick, bits_found}
use Rattle.sel_runs.proofs.gather_values.gather_hidden.Given as goal

abbrev pub invariant-loop-at : goal.invariant-loop-at
invariant-loop-at g l = record {
  values : l.values.items ≡ pick l.zero (map (λ s. s.values.now) l.parts) (take l.at (g.P.Plan.picks l.plan));
  bits : l.bits ≡ take l.at (bits_found (map (λ s. option_copied s.validity) l.parts) (g.P.Plan.picks l.plan));
  rest : g.P.Plan.picks l.rest ≡ drop l.at (g.P.Plan.picks l.plan);
  count : vec_len l.values ≡ l.at;
  room : l.len ≤ vec_capacity l.values;
  within : l.at ≤ l.len;
}

abbrev pub decreases-loop-at : goal.decreases-loop-at
decreases-loop-at g l = l.len - l.at
