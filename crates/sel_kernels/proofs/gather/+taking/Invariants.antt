-- Termination: each recursive call is on a field or at a smaller measure.
use Rattle.sel_kernels.proofs.Common.{◌+◌, ◌*◌, length, map, primitive_rows, type_of, shapes_of, size_of, sizes_of}
use Rattle.sel_kernels.proofs.{TakenStructs.taken_of, SelectedRows.AreFields}
use Rattle.sel_kernels.proofs.gather.+taking.Given as goal

abbrev pub decreases-take_any : goal.decreases-take_any
decreases-take_any l = 3 * size_of (type_of l.values.now) + 1

abbrev pub decreases-take_struct : goal.decreases-take_struct
decreases-take_struct l = 3 * sizes_of (shapes_of (map type_of l.fields.now.items)) + 3

abbrev pub decreases-take_fields : goal.decreases-take_fields
decreases-take_fields l = 3 * sizes_of (shapes_of (map type_of l.columns.now)) + 2

abbrev pub invariant-take_fields-loop-column : goal.invariant-take_fields-loop-column
invariant-take_fields-loop-column l = AreFields (taken_of (primitive_rows l.indices)) (length (primitive_rows l.indices)) l.columns l.taken.items l.column-index
