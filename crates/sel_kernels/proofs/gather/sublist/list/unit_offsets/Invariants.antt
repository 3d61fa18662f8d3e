-- Loop invariant: the offsets so far, within the capacity.
use Rattle.sel_kernels.proofs.Common.{◌≡◌, map, pos, range_with_len, vec_capacity}
use Rattle.sel_kernels.proofs.gather.sublist.list.unit_offsets.Given as goal

abbrev pub invariant-loop-offset : goal.invariant-loop-offset
invariant-loop-offset l = (l.offsets.items ≡ map pos (range_with_len 0 l.offset)) × (vec_capacity l.offsets ≡ vec_capacity l.initial.offsets)
