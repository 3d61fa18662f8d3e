-- The columns so far have `len` rows.
use Rattle.std.proofs.Common.{◌≡◌, ◌==◌, true, take}
use Rattle.sel_arrow.proofs.Common.{list_all, row_count}
use Rattle.sel_arrow.proofs.structure.have_rows.Given as goal

abbrev pub invariant-loop-column : goal.invariant-loop-column
invariant-loop-column l = list_all (λ column. row_count column.column == l.len) (take l.column-index l.columns) ≡ true
