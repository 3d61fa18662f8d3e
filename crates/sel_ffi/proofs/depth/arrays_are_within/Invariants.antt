-- No column so far has more levels.
use Rattle.std.proofs.Common.{◌≤◌, take, All}
use Rattle.sel_ffi.proofs.Common.{depth, type_of}
use Rattle.sel_ffi.proofs.depth.arrays_are_within.Given as goal

abbrev pub invariant-loop-array : goal.invariant-loop-array
invariant-loop-array l = All (λ array. depth (type_of array.column) ≤ l.levels) (take l.array-index l.arrays)
