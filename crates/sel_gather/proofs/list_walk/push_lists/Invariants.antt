-- The ends and the child rows of the rows so far are appended.
use Rattle.sel_gather.proofs.Common.{◌≡◌, ◌+◌, ◌++◌, ◌∷◌, [], All, length, map, take, pos, Null, joined_items, item_ends, pick, PickFits, expand, unrolled}
use Rattle.sel_gather.proofs.ItemRuns.{rows_of, below_of}
use Rattle.sel_gather.proofs.list_walk.push_lists.Given as goal

abbrev pub invariant-loop-i : goal.invariant-loop-i
invariant-loop-i l = record {
  count : l.end ≡ l.start + length (joined_items 0 (take l.i (pick Null (rows_of l.sources) (unrolled l.run))));
  ends : l.ends.items ≡ l.initial.ends.items ++ map pos (item_ends l.start (take l.i (pick Null (rows_of l.sources) (unrolled l.run))));
  items : pick Null (below_of l.sources) (expand (l.below.items ++ l.last ∷ [])) ≡ pick Null (below_of l.sources) (expand (l.initial.below.items ++ l.initial.last ∷ [])) ++ joined_items 0 (take l.i (pick Null (rows_of l.sources) (unrolled l.run)));
  sound : All (PickFits (below_of l.sources)) (expand (l.below.items ++ l.last ∷ []));
}
