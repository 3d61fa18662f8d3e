-- The row references that are left are the same.
use Rattle.sel_runs.proofs.Common.{◌≡◌, ◌++◌, length, expand, unrolled}
use Rattle.sel_runs.proofs.run_refs.ListedRunsRuns.next_run.Given as goal

abbrev pub invariant-loop-run : goal.invariant-loop-run
invariant-loop-run l = unrolled l.run ++ expand l.rest ≡ expand l.self.runs.now

abbrev pub decreases-loop-run : goal.decreases-loop-run
decreases-loop-run l = length l.rest
