use Rattle.sel_filter.proofs.Common.{arith}
use Rattle.sel_filter.proofs.BlockSelects.{more_kept, kept_more}
use Rattle.sel_filter.proofs.boolean.filter_boolean_kernel_pext.Goals as goal

pub overflow_add-count : goal.overflow_add-count
overflow_add-count c =
    let block = rw c.unwrap-block.ensures at c.next-in-Some.ensures.block in
    record { fits = omega (arith, c.len-whole.ensures, more_kept _ _ _ _ _ _ c.loop-marks.invariant c.unwrap-block.result c.in-Some.marks block c.in-Some.ensures.block) }

pub loop-marks-preserved : goal.loop-marks-preserved
loop-marks-preserved c = grind (arith, kept_more)
