-- Loop invariant: the entries so far.
use Rattle.std.proofs.Common.{◌≡◌, ◌++◌, map, take}
use Rattle.sel_text.specs.ItemValues.{item_value, rows_read}
use Rattle.sel_text.proofs.build.push_each.Given as goal

abbrev pub invariant-loop-entry : goal.invariant-loop-entry
invariant-loop-entry l = rows_read l.entries.items ≡ rows_read l.fn.entries.items ++ map item_value (take l.entry-index l.list)
