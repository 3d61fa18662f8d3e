-- The kept bits are those under the mask bits read so far.
use Rattle.sel_filter.proofs.Common.{◌+◌, ◌-◌, ◌/◌, length}
use Rattle.sel_filter.proofs.Filtering.{IsFiltered}
use Rattle.sel_filter.proofs.boolean.filter_boolean_kernel_sparse.Given as goal

abbrev pub invariant-loop-zeros : goal.invariant-loop-zeros
invariant-loop-zeros l = IsFiltered l.fn.values.source l.fn.mask.source l.kept l.start l.values l.mask

abbrev pub decreases-loop-zeros : goal.decreases-loop-zeros
decreases-loop-zeros l = length l.mask.source.bits / 64 + 2 - l.mask.words_read
