-- Loop invariant: the lists so far are null.
use Rattle.sel_kernels.proofs.Common.{◌≡◌, ◌<◌, ℕ, false, valid_at}
use Rattle.sel_kernels.proofs.gather.sublist.fixed_size_list.is_literal_error.Given as goal

abbrev pub invariant-loop-k : goal.invariant-loop-k
invariant-loop-k l = (j : ℕ) → j < l.k → valid_at l.arr.validity j ≡ false
