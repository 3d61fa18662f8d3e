-- The items so far and what the remaining bits select are the final items; the remaining runs are
-- the copies to come.
use Rattle.sel_filter.proofs.Common.{◌≡◌, ◌+◌, ◌-◌, ◌++◌, length, drop, false, bits, select, starts_after}
use Rattle.sel_filter.proofs.Running.{CountsRuns, IsRunning}
use Rattle.sel_filter.proofs.primitive.copy_runs.Given as goal

abbrev pub invariant-loop-rest : goal.invariant-loop-rest
invariant-loop-rest g l = record {
  source : l.out.source ≡ l.fn.out.source;
  running : IsRunning l.fn.out.source (l.fn.out.items ++ select (drop l.fn.start l.fn.out.source) (bits (length l.fn.out.source - l.fn.start) l.fn.word)) l.out.items l.at l.rest;
  counts : CountsRuns l.fn.out.source (l.fn.out.copies + starts_after false (bits (length l.fn.out.source - l.fn.start) l.fn.word)) l.out.copies l.at l.rest;
}

abbrev pub decreases-loop-rest : goal.decreases-loop-rest
decreases-loop-rest g l = l.rest
