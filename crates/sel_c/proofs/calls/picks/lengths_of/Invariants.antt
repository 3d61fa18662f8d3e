-- The lengths so far.
use Rattle.std.proofs.Common.{◌≡◌, length, map, take}
use Rattle.sel_arrow.specs.Rows.{rows}
use Rattle.sel_c.proofs.calls.picks.lengths_of.Given as goal

abbrev pub invariant-loop-array : goal.invariant-loop-array
invariant-loop-array l = l.found.items ≡ map (λ a. length (rows a.column)) (take l.array-index l.arrays)
