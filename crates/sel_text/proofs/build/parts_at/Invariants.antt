-- Loop invariant: the field values so far.
use Rattle.std.proofs.Common.{◌≡◌, map, take}
use Rattle.sel_text.proofs.Common.{Null, item_value, rows_repeated, part_in}
use Rattle.sel_text.proofs.build.parts_at.Given as goal

abbrev pub invariant-loop-run : goal.invariant-loop-run
invariant-loop-run l = item_value l.other ≡ Null → rows_repeated l.parts.items ≡ map (part_in l.place) (rows_repeated (take l.run-index l.items))
