-- The items so far and what the remaining bits select are the final items.
use Rattle.sel_filter.proofs.Common.{◌≡◌, ◌+◌, ◌<◌, ◌≤◌, ◌^◌, ◌++◌, length, vec_len, vec_capacity, bits, select}
use Rattle.sel_filter.proofs.block.append_few.Given as goal

abbrev pub invariant-loop-rest : goal.invariant-loop-rest
invariant-loop-rest g l = record {
  fits : l.rest < 2 ^ length l.block;
  room : vec_len l.out + length (select l.block (bits (length l.block) l.rest)) ≤ vec_capacity l.out;
  kept : l.out.items ++ select l.block (bits (length l.block) l.rest) ≡ l.fn.out.items ++ select l.block (bits (length l.block) l.mask);
}

abbrev pub decreases-loop-rest : goal.decreases-loop-rest
decreases-loop-rest g l = l.rest
