-- The row references that are left are the same.
use Rattle.sel_gather.proofs.Common.{◌≡◌, ◌++◌, length, true, expand, unrolled}
use Rattle.sel_gather.specs.Spans.{are_ends, spans}
use Rattle.sel_gather.proofs.spans.SpanRunsRuns.next_run.Given as goal

abbrev pub invariant-loop-run : goal.invariant-loop-run
invariant-loop-run l = record {
  picks : unrolled l.run ++ expand (spans l.starts l.at l.ends) ≡ expand (spans l.self.starts.now l.self.at l.self.ends.now);
  rising : are_ends l.at l.ends ≡ true;
}

abbrev pub decreases-loop-run : goal.decreases-loop-run
decreases-loop-run l = length l.starts
