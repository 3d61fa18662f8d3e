-- Loop invariant: the entries so far.
use Rattle.std.proofs.Common.{◌≡◌, ◌++◌, map, take}
use Rattle.sel_text.proofs.Common.{item_value, rows_repeated}
use Rattle.sel_text.proofs.row_runs.push_entries.Given as goal

abbrev pub invariant-loop-entry : goal.invariant-loop-entry
invariant-loop-entry l = rows_repeated l.entries.items ≡ rows_repeated l.fn.entries.items ++ map item_value (take l.entry-index l.list)
