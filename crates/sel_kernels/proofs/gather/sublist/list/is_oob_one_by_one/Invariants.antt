-- Loop invariant: the index is in bounds for the lists so far that are not null.
use Rattle.sel_kernels.proofs.Common.{◌≡◌, false, take, list_any, rows, LargeList, lacks_place}
use Rattle.sel_kernels.proofs.gather.sublist.list.is_oob_one_by_one.Given as goal

abbrev pub invariant-loop-k : goal.invariant-loop-k
invariant-loop-k l = list_any (lacks_place l.index) (take l.k (rows (LargeList l.offsets l.values l.validity))) ≡ false
