-- Loop invariant: the entries so far.
use Rattle.std.proofs.Common.{◌≡◌, take}
use Rattle.sel_text.proofs.Common.{flat_map, Null, item_value, rows_repeated, block_in}
use Rattle.sel_text.proofs.build.entries_of.Given as goal

abbrev pub invariant-loop-run : goal.invariant-loop-run
invariant-loop-run l = item_value l.null ≡ Null → rows_repeated l.entries.items ≡ flat_map (block_in l.size) (rows_repeated (take l.run-index l.items))
