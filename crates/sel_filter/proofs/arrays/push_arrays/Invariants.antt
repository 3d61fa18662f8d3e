-- The items so far, and those of the arrays at the remaining bits, are the final items.
use Rattle.sel_filter.proofs.Common.{◌≡◌, ◌+◌, ◌*◌, ◌<◌, ◌≤◌, ◌^◌, ◌++◌, length, vec_len, vec_capacity, flat_map, bits, select}
use Rattle.sel_filter.proofs.arrays.push_arrays.Given as goal

abbrev pub invariant-loop-rest : goal.invariant-loop-rest
invariant-loop-rest g l = record {
  fits : l.rest < 2 ^ length l.block;
  room : vec_len l.kept + length (select l.block (bits (length l.block) l.rest)) * g.row.N ≤ vec_capacity l.kept;
  kept : l.kept.items ++ flat_map (λ array. array) (select l.block (bits (length l.block) l.rest)) ≡ l.fn.out.items ++ flat_map (λ array. array) (select l.block (bits (length l.block) l.mask));
}

abbrev pub decreases-loop-rest : goal.decreases-loop-rest
decreases-loop-rest g l = l.rest
