-- The columns so far have the type of the first.
use Rattle.std.proofs.Common.{◌≡◌, All, take}
use Rattle.sel_arrow.specs.Rows.{type_of}
use Rattle.sel_c.proofs.calls.several.are_alike.Given as goal

abbrev pub invariant-loop-array : goal.invariant-loop-array
invariant-loop-array l = All (λ a. type_of a.column ≡ type_of l.first.column) (take l.array-index l.arrays)
