-- The bytes of the rows so far are counted; each row has fewer than 2^64.
use Rattle.sel_gather.proofs.Common.{◌≡◌, ◌≤◌, ◌-◌, ◌*◌, take, drop, map, binary_rows, Null, bytes_needed, pick}
use Rattle.sel_gather.proofs.binary.count_bytes.Given as goal

abbrev pub invariant-loop-at : goal.invariant-loop-at
invariant-loop-at g l = record {
  rest : g.R.Runs.picks l.rest ≡ drop l.at (g.R.Runs.picks l.runs);
  within : l.at ≤ l.len;
  bytes : l.total ≡ bytes_needed (pick Null (map (λ s. binary_rows s.now) l.sources) (take l.at (g.R.Runs.picks l.runs)));
  small : l.total ≤ 18446744073709551615 * l.at;
}

abbrev pub decreases-loop-at : goal.decreases-loop-at
decreases-loop-at g l = l.len - l.at
