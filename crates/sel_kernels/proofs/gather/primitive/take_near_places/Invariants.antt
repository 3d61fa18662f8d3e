-- Loop invariant: the values taken so far, and capacity for the rest.
use Rattle.sel_kernels.proofs.Common.{◌≡◌, ◌≤◌, length, map, take, near_value, vec_len, vec_capacity}
use Rattle.sel_kernels.proofs.gather.primitive.take_near_places.Given as goal

abbrev pub invariant-loop-place : goal.invariant-loop-place
invariant-loop-place g l = record {
  items : l.taken.items ≡ map (near_value l.values l.fn.filler) (take l.place-index l.places);
  count : vec_len l.taken ≡ l.place-index;
  room : length l.places ≤ vec_capacity l.taken;
}
