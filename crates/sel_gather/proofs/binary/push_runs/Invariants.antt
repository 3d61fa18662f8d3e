-- The rows so far are appended.
use Rattle.sel_gather.proofs.Common.{◌≡◌, ◌≤◌, ◌-◌, map, take, drop, binary_rows, Null, GrewBy, pick}
use Rattle.sel_gather.proofs.binary.push_runs.Given as goal

abbrev pub invariant-loop-at : goal.invariant-loop-at
invariant-loop-at g l = record {
  rest : g.R.Runs.picks l.rest ≡ drop l.at (g.R.Runs.picks l.runs);
  within : l.at ≤ l.len;
  grew : GrewBy (pick Null (map (λ s. binary_rows s.now) l.sources) (take l.at (g.R.Runs.picks l.runs))) l.initial.joined l.joined;
}

abbrev pub decreases-loop-at : goal.decreases-loop-at
decreases-loop-at g l = l.len - l.at
