-- The kept bits are those of the blocks read so far.
use Rattle.sel_filter.proofs.Common.{◌+◌, ◌-◌, ◌/◌, length}
use Rattle.sel_filter.proofs.BlockSelects.{IsKept}
use Rattle.sel_filter.proofs.boolean.filter_boolean_kernel_pext.Given as goal

abbrev pub invariant-loop-marks : goal.invariant-loop-marks
invariant-loop-marks l = IsKept l.fn.values.source l.fn.mask.source l.kept l.count l.values l.mask

abbrev pub decreases-loop-marks : goal.decreases-loop-marks
decreases-loop-marks l = (length l.mask.source.bits + 55) / 56 - l.mask.blocks_read
