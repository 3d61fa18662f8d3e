-- The validity of the rows so far.
use Rattle.std.proofs.Common.{◌≡◌, map, take, is_some}
use Rattle.sel_arrow.proofs.options.valid_rows.Given as goal

abbrev pub invariant-loop-row : goal.invariant-loop-row
invariant-loop-row g l = l.valid.items ≡ map is_some (take l.row-index l.rows)
