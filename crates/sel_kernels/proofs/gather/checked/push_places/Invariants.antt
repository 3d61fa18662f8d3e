-- Loop invariant: the values so far follow the values from before, and there is capacity for the rest.
use Rattle.sel_kernels.proofs.Common.{◌≡◌, ◌+◌, ◌++◌, map, near_value, take, vec_len, vec_capacity}
use Rattle.sel_kernels.proofs.gather.checked.push_places.Given as goal

abbrev pub invariant-loop-place : goal.invariant-loop-place
invariant-loop-place g l = record {
  items : l.taken.items ≡ l.fn.taken.items ++ map (near_value l.values l.fn.filler) (take l.place-index l.places);
  count : vec_len l.taken ≡ vec_len l.fn.taken + l.place-index;
  capacity : vec_capacity l.taken ≡ vec_capacity l.fn.taken;
}
