-- The child rows of the rows so far are appended.
use Rattle.sel_gather.proofs.Common.{◌≡◌, ◌++◌, All, take, Null, joined_items, pick, PickFits, expand, unrolled}
use Rattle.sel_gather.proofs.ItemRuns.{rows_of, below_of}
use Rattle.sel_gather.proofs.lists.push_items.Given as goal

abbrev pub invariant-loop-i : goal.invariant-loop-i
invariant-loop-i l =
    (pick Null (below_of l.sources) (expand l.below.items) ≡ pick Null (below_of l.sources) (expand l.initial.below.items) ++ joined_items l.width (take l.i (pick Null (rows_of l.sources) (unrolled l.run)))) × All (PickFits (below_of l.sources)) (expand l.below.items)
