-- Loop invariant: the indices so far are in bounds.
use Rattle.sel_kernels.proofs.Common.{◌≡◌, true, take, primitive_rows, all_within}
use Rattle.sel_kernels.proofs.gather.indices_in_bounds_of.Given as goal

abbrev pub invariant-loop-k : goal.invariant-loop-k
invariant-loop-k g l = all_within l.len (take l.k (primitive_rows l.indices)) ≡ true
