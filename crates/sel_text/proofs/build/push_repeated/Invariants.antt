-- Loop invariant: the entries so far.
use Rattle.std.proofs.Common.{◌≡◌, ◌++◌, map}
use Rattle.sel_text.proofs.Common.{item_value, repeated, rows_repeated}
use Rattle.sel_text.proofs.build.push_repeated.Given as goal

abbrev pub invariant-loop : goal.invariant-loop
invariant-loop l = rows_repeated l.entries.items ≡ rows_repeated l.fn.entries.items ++ repeated l.counter (map item_value l.list)
