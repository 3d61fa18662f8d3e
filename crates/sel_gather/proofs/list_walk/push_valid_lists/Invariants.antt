-- The ends so far.
use Rattle.sel_gather.proofs.Common.{◌≡◌, ◌+◌, ◌++◌, map, pos, range_with_len}
use Rattle.sel_gather.specs.ItemPicks.{moved_end}
use Rattle.sel_gather.proofs.list_walk.push_valid_lists.Given as goal

abbrev pub invariant-loop-i : goal.invariant-loop-i
invariant-loop-i l = record {
  ends : l.ends.items ≡ l.initial.ends.items ++ map pos (map (moved_end l.offsets l.run.start l.start) (range_with_len (l.run.start + 1) l.i));
}
