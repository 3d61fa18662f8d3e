-- The rows so far, with `hidden` for each missing one.
use Rattle.std.proofs.Common.{◌≡◌, map, take, unwrap_or}
use Rattle.sel_arrow.proofs.options.values_or.Given as goal

abbrev pub invariant-loop-row : goal.invariant-loop-row
invariant-loop-row g l = l.values.items ≡ map (λ row. unwrap_or row l.hidden) (take l.row-index l.rows)
