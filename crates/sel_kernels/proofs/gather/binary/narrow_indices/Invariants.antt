-- Loop invariant: the indices so far, and capacity for the rest.
use Rattle.sel_kernels.proofs.Common.{◌≡◌, ◌≤◌, length, map, take, narrowed, vec_len, vec_capacity}
use Rattle.sel_kernels.proofs.gather.binary.narrow_indices.Given as goal

abbrev pub invariant-loop-index : goal.invariant-loop-index
invariant-loop-index g l = record {
  items : l.narrow.items ≡ map (λ x. narrowed (g.I.NativeType.number x)) (take l.index-index l.wide);
  count : vec_len l.narrow ≡ l.index-index;
  room : length l.wide ≤ vec_capacity l.narrow;
}
