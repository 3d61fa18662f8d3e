-- The bits so far are appended.
use Rattle.sel_runs.proofs.Common.{◌≡◌, ◌≤◌, ◌-◌, ◌++◌, take, drop, map, option_copied, bits_found}
use Rattle.sel_runs.proofs.gather_values.append_bits.Given as goal

abbrev pub invariant-loop-at : goal.invariant-loop-at
invariant-loop-at g l = record {
  bits : g.S.BitSink.so_far l.sink ≡ g.S.BitSink.so_far l.initial.sink ++ take l.at (bits_found (map option_copied l.maps) (g.P.Plan.picks l.plan));
  beside : g.S.BitSink.beside l.sink ≡ g.S.BitSink.beside l.initial.sink;
  rest : g.P.Plan.picks l.rest ≡ drop l.at (g.P.Plan.picks l.plan);
  within : l.at ≤ l.len;
}

abbrev pub decreases-loop-at : goal.decreases-loop-at
decreases-loop-at g l = l.len - l.at
