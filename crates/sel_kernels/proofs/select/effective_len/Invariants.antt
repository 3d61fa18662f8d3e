-- Loop invariant: the number of mask rows so far that are valid and true.
use Rattle.sel_kernels.proofs.Common.{◌≡◌, take, count_by, boolean_rows, is_true}
use Rattle.sel_kernels.proofs.select.effective_len.Given as goal

abbrev pub invariant-loop-place : goal.invariant-loop-place
invariant-loop-place l = l.count ≡ count_by is_true (take l.place (boolean_rows l.mask))
