-- Loop invariant: the columns so far have the type of the first.
use Rattle.sel_kernels.proofs.Common.{◌≡◌, All, take, type_of}
use Rattle.sel_kernels.proofs.horizontal_flatten.are_of_one_type.Given as goal

abbrev pub invariant-loop-array : goal.invariant-loop-array
invariant-loop-array l = All (λ a. type_of a.column ≡ type_of l.first.column) (take l.array-index l.arrays)
