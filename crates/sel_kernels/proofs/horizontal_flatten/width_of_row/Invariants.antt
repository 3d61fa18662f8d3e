-- Loop invariant: the sum of the widths so far, each of which is less than 2^64.
use Rattle.sel_kernels.proofs.Common.{◌≡◌, ◌≤◌, ◌*◌, take, row_width}
use Rattle.sel_kernels.proofs.horizontal_flatten.width_of_row.Given as goal

abbrev pub invariant-loop-width : goal.invariant-loop-width
invariant-loop-width l = (l.row ≡ row_width (take l.width-index l.widths)) × (l.row ≤ l.width-index * 18446744073709551615)
