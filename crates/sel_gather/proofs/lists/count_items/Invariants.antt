-- The child rows of the runs so far are counted; each row has fewer than 2^32.
use Rattle.sel_gather.proofs.Common.{◌≡◌, ◌≤◌, ◌*◌, length, take, max_rows, Null, joined_items, pick, expand}
use Rattle.sel_gather.proofs.ItemRuns.{rows_of}
use Rattle.sel_gather.proofs.lists.count_items.Given as goal

abbrev pub invariant-loop-run : goal.invariant-loop-run
invariant-loop-run l =
    (l.total ≡ length (joined_items l.width (pick Null (rows_of l.sources) (expand (take l.run-index l.runs))))) × (l.total ≤ max_rows * length (expand (take l.run-index l.runs)))
