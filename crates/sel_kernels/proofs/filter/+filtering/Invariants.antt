-- Termination: each recursive call is on a child or at a smaller measure.
use Rattle.sel_kernels.proofs.Common.{◌+◌, ◌*◌, map, count_true, type_of, shapes_of, size_of, sizes_of}
use Rattle.sel_kernels.proofs.{KeptColumns.kept_of, SelectedRows.AreFields}
use Rattle.sel_kernels.proofs.filter.+filtering.Given as goal

abbrev pub decreases-filter_column : goal.decreases-filter_column
decreases-filter_column l = 3 * size_of (type_of l.column.now) + 1

abbrev pub decreases-filter_struct : goal.decreases-filter_struct
decreases-filter_struct l = 3 * sizes_of (shapes_of (map type_of l.fields.now.items)) + 3

abbrev pub decreases-filter_fields : goal.decreases-filter_fields
decreases-filter_fields l = 3 * sizes_of (shapes_of (map type_of l.columns.now)) + 2

abbrev pub invariant-filter_fields-loop-column : goal.invariant-filter_fields-loop-column
invariant-filter_fields-loop-column l = AreFields (kept_of l.mask.bits) (count_true l.mask.bits) l.columns l.kept.items l.column-index
