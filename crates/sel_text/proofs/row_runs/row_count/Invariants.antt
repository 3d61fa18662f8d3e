-- Loop invariant: the number of rows so far.
use Rattle.std.proofs.Common.{◌≡◌, length, take}
use Rattle.sel_text.specs.RowRuns.{rows_repeated}
use Rattle.sel_text.proofs.row_runs.row_count.Given as goal

abbrev pub invariant-loop-run : goal.invariant-loop-run
invariant-loop-run l = l.count ≡ length (rows_repeated (take l.run-index l.runs))
