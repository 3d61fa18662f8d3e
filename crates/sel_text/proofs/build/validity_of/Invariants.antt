-- Loop invariant: the validity of the rows so far, and the rows that are left.
use Rattle.std.proofs.Common.{◌≡◌, take, drop}
use Rattle.sel_text.{proofs.Shown.valid_items, specs.RowRuns.all_items, specs.RowRuns.left}
use Rattle.sel_text.proofs.build.validity_of.Given as goal

abbrev pub invariant-loop : goal.invariant-loop
invariant-loop l = (left l.rows ≡ drop l.counter (all_items l.items)) × (l.valid.items ≡ valid_items (take l.counter (all_items l.items)))
