use Rattle.sel_runs.proofs.Common.{◌≡◌, ◌≤◌, ◌*◌, length, take, max_rows, expand}
use Rattle.sel_runs.proofs.runs.picked_rows.Given as goal

abbrev pub invariant-loop-run : goal.invariant-loop-run
invariant-loop-run l = (l.count ≡ length (expand (take l.run-index l.runs))) × (l.count ≤ l.run-index * max_rows)
