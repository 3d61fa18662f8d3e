use Rattle.sel_filter.proofs.Few.{IsFew}
use Rattle.sel_filter.proofs.pext.pext64_few.Given as goal

abbrev pub invariant-loop-marks : goal.invariant-loop-marks
invariant-loop-marks l = IsFew l.v l.m l.packed l.place l.marks

abbrev pub decreases-loop-marks : goal.decreases-loop-marks
decreases-loop-marks l = l.marks
