use Rattle.sel_kernels.proofs.Common.{◌≡◌, map, take, rows, ArrayRef, lanes_of}
use Rattle.sel_kernels.proofs.horizontal_flatten.lanes_of_parts.Given as goal

-- Loop invariant: the lanes of the columns so far.
abbrev pub invariant-loop-s : goal.invariant-loop-s
invariant-loop-s l = l.lanes.items ≡ lanes_of (take l.s (map (λ (a : ArrayRef). rows a.column) l.arrays)) (take l.s l.widths)
