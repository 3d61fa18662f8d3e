-- The index is in bounds for the lists before the block that are not null; `found` says whether it is out of bounds for one so far.
use Rattle.sel_kernels.proofs.Common.{◌≡◌, ◌-◌, false, take, list_any, rows, LargeList, lacks_place}
use Rattle.sel_kernels.proofs.gather.sublist.list.is_oob_by_blocks.Given as goal

abbrev pub invariant-loop-start : goal.invariant-loop-start
invariant-loop-start l = list_any (lacks_place l.index) (take l.start (rows (LargeList l.offsets l.values l.validity))) ≡ false

abbrev pub invariant-loop-k : goal.invariant-loop-k
invariant-loop-k l = l.found ≡ list_any (lacks_place l.index) (take l.k (rows (LargeList l.offsets l.values l.validity)))

abbrev pub decreases-loop-start : goal.decreases-loop-start
decreases-loop-start l = l.len - l.start
