-- The columns so far.
use Rattle.std.proofs.Common.{◌≡◌, map, take}
use Rattle.sel_c.proofs.calls.several.columns_of.Given as goal

abbrev pub invariant-loop-array : goal.invariant-loop-array
invariant-loop-array l = map (λ c. c.now) l.found.items ≡ map (λ a. a.column) (take l.array-index l.arrays)
