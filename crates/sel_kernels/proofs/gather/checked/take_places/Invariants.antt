-- Loop invariant: the values so far and those at the remaining indices are all values, the remaining
-- indices are in bounds if all are, and there is capacity for their values.
use Rattle.sel_kernels.proofs.Common.{◌≡◌, ◌+◌, ◌++◌, ◌≤◌, all_below, length, map, near_value, vec_len, vec_capacity}
use Rattle.sel_kernels.proofs.gather.checked.take_places.Given as goal

abbrev pub invariant-loop-rest : goal.invariant-loop-rest
invariant-loop-rest g l = record {
  items : l.taken.items ++ map (near_value l.values l.fn.filler) l.rest ≡ map (near_value l.values l.fn.filler) l.places;
  below : all_below (length l.values) l.rest ≡ all_below (length l.values) l.places;
  room : vec_len l.taken + length l.rest ≤ vec_capacity l.taken;
}

abbrev pub decreases-loop-rest : goal.decreases-loop-rest
decreases-loop-rest g l = length l.rest
