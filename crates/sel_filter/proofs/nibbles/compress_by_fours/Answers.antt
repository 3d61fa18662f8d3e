use Rattle.std.proofs.lemmas.Grind.{common_steps}
use Rattle.sel_filter.proofs.Common.{arith}
use Rattle.sel_filter.proofs.ByFours.{packed_first, packed_next, few_bits}
use Rattle.sel_filter.proofs.nibbles.compress_by_fours.Goals as goal

pub loop-i-init : goal.loop-i-init
loop-i-init c = packed_first c.args.v c.args.m

pub overflow_add-place : goal.overflow_add-place
overflow_add-place c = grind (arith, common_steps, packed_next, few_bits)

pub loop-i-preserved : goal.loop-i-preserved
loop-i-preserved c = rw c.from.ensures (packed_next _ _ _ _ _ _ _ c.loop-i-test.true c.loop-i.invariant)
