-- Loop invariant: the rows so far.
use Rattle.std.proofs.Common.{◌≡◌, take}
use Rattle.sel_text.proofs.Common.{rows_read, rows_repeated}
use Rattle.sel_text.proofs.row_runs.once_each.Given as goal

abbrev pub invariant-loop-item : goal.invariant-loop-item
invariant-loop-item l = rows_repeated l.runs.items ≡ rows_read (take l.item-index l.items)
