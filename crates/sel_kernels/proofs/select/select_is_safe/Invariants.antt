-- Loop invariant: the columns so far are as long as the mask.
use Rattle.sel_kernels.proofs.Common.{◌≡◌, true, take, length, ◌==◌, list_all, boolean_rows, rows}
use Rattle.sel_kernels.proofs.select.select_is_safe.Given as goal

abbrev pub invariant-loop-column : goal.invariant-loop-column
invariant-loop-column l = list_all (λ c. length (rows c.column) == length (boolean_rows l.mask)) (take l.column-index l.columns) ≡ true
