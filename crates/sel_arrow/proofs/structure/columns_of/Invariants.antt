-- The columns of the arrays so far.
use Rattle.std.proofs.Common.{◌≡◌, map}
use Rattle.sel_arrow.proofs.structure.columns_of.Given as goal

abbrev pub invariant-loop-array : goal.invariant-loop-array
invariant-loop-array l = l.columns.items ≡ map (λ array. array.column) l.yielded
