-- Loop invariant: the indices so far are in bounds, or their list is null.
use Rattle.sel_kernels.proofs.Common.{◌≡◌, ◌<◌, ℕ, true, false, slice_index_or, primitive_rows, valid_at, Null, place_of, is_none}
use Rattle.sel_kernels.proofs.gather.sublist.fixed_size_list.is_error.Given as goal

abbrev pub invariant-loop-k : goal.invariant-loop-k
invariant-loop-k l =
    (j : ℕ) → j < l.k → valid_at l.arr.validity j ≡ true → is_none (place_of l.arr.size (slice_index_or (primitive_rows l.index) j Null)) ≡ false
