-- The kept values of the rounds so far follow the initial items.
use Rattle.sel_filter.proofs.Common.{◌≡◌, ◌*◌, ◌/◌, ◌^◌, vec_capacity}
use Rattle.sel_filter.proofs.Dense.{IsDense}
use Rattle.sel_filter.proofs.block.push_dense.Given as goal

abbrev pub invariant-loop-round : goal.invariant-loop-round
invariant-loop-round g l = record {
  left : l.word ≡ l.mask / 2 ^ (16 * l.round);
  capacity : vec_capacity l.out ≡ vec_capacity l.fn.out;
  dense : IsDense l.block l.mask l.fn.out.items l.out.items (16 * l.round);
}
