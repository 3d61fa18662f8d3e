-- Loop invariant: the positions so far and those that are left. Measure: how many are left.
use Rattle.sel_kernels.proofs.Common.{vec_len, vec_capacity, ◌≡◌, ◌≤◌, ◌+◌, ◌++◌, last_to_first}
use Rattle.sel_kernels.proofs.reverse.reversed_indices.Given as goal

abbrev pub invariant-loop-left : goal.invariant-loop-left
invariant-loop-left l = record {
  positions : l.places.items ++ last_to_first l.left ≡ last_to_first l.len;
  count : vec_len l.places + l.left ≡ l.len;
  room : l.len ≤ vec_capacity l.places;
}

abbrev pub decreases-loop-left : goal.decreases-loop-left
decreases-loop-left l = l.left
