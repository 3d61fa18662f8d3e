-- The items so far lack the values at the remaining bits.
use Rattle.sel_filter.proofs.Common.{◌≡◌, ◌++◌, length, vec_capacity, bits, select}
use Rattle.sel_filter.proofs.Dense.{FewSoFar}
use Rattle.sel_filter.proofs.block.push_few.Given as goal

abbrev pub invariant-loop-rest : goal.invariant-loop-rest
invariant-loop-rest g l = record {
  capacity : vec_capacity l.out ≡ vec_capacity l.fn.out;
  kept : FewSoFar l.block l.rest (vec_capacity l.fn.out) l.out.items (l.fn.out.items ++ select l.block (bits (length l.block) l.mask));
}

abbrev pub decreases-loop-rest : goal.decreases-loop-rest
decreases-loop-rest g l = l.rest
