-- The child rows of the rows so far are counted; each row has fewer than 2^32.
use Rattle.sel_gather.proofs.Common.{◌≡◌, ◌≤◌, ◌*◌, length, take, max_rows, Null, joined_items, pick, unrolled}
use Rattle.sel_gather.proofs.ItemRuns.{rows_of}
use Rattle.sel_gather.proofs.lists.count_run.Given as goal

abbrev pub invariant-loop-i : goal.invariant-loop-i
invariant-loop-i l =
    (l.total ≡ length (joined_items l.width (take l.i (pick Null (rows_of l.sources) (unrolled l.run))))) × (l.total ≤ max_rows * l.i)
