-- The child rows of the runs so far.
use Rattle.sel_gather.proofs.Common.{◌≡◌, All, take, Null, joined_items, pick, PickFits, expand}
use Rattle.sel_gather.proofs.ItemRuns.{rows_of, below_of}
use Rattle.sel_gather.proofs.lists.child_runs.Given as goal

abbrev pub invariant-loop-run : goal.invariant-loop-run
invariant-loop-run l =
    (pick Null (below_of l.sources) (expand l.below.items) ≡ joined_items l.width (pick Null (rows_of l.sources) (expand (take l.run-index l.runs)))) × All (PickFits (below_of l.sources)) (expand l.below.items)
