use Rattle.sel_filter.proofs.Common.{arith}
use Rattle.sel_filter.proofs.Few.{place_below, few_last}
use Rattle.sel_filter.proofs.pext.pext64_few.Goals as goal

pub overflow_shl-packed : goal.overflow_shl-packed
overflow_shl-packed c = place_below _ _ _ _ _ (omega arith) c.loop-marks.auto.marks-fits.fits c.loop-marks.invariant

pub overflow_add-place : goal.overflow_add-place
overflow_add-place c = record { fits = omega (arith, place_below _ _ _ _ _ (omega arith) c.loop-marks.auto.marks-fits.fits c.loop-marks.invariant) }

pub returns : goal.returns
returns c = few_last _ _ _ _ _ (omega arith) c.loop-marks.invariant
