-- Loop invariant: the rows that are left stay the same, and there are some. Measure: the runs.
use Rattle.std.proofs.Common.{◌≡◌, ◌<◌, length}
use Rattle.sel_text.specs.RowRuns.{left}
use Rattle.sel_text.proofs.row_runs.RowWalk.next.Given as goal

abbrev pub invariant-loop-self : goal.invariant-loop-self
invariant-loop-self l = (left l.self ≡ left l.fn.self) × (0 < length (left l.self))

abbrev pub decreases-loop-self : goal.decreases-loop-self
decreases-loop-self l = length l.self.runs.now
