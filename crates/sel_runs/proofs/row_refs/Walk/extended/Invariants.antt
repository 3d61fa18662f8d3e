-- The run so far and the row references after it are those of the beginning.
use Rattle.sel_runs.proofs.Common.{◌≡◌, ◌≤◌, ◌+◌, ◌-◌, ◌++◌, length, drop, max_rows, unrolled}
use Rattle.sel_runs.proofs.row_refs.Walk.extended.Given as goal

abbrev pub invariant-loop-self : goal.invariant-loop-self
invariant-loop-self g l = record {
  len : l.len ≡ length (g.G.Places.picks l.self.places);
  picks : unrolled l.fn.run ++ drop l.initial.self.at (g.G.Places.picks l.initial.self.places) ≡ unrolled l.all ++ drop l.self.at (g.G.Places.picks l.self.places);
  some : l.fn.run.len ≤ l.all.len;
  few : l.all.len + length (drop l.self.at (g.G.Places.picks l.self.places)) ≤ max_rows;
}

abbrev pub decreases-loop-self : goal.decreases-loop-self
decreases-loop-self g l = l.len - l.self.at
