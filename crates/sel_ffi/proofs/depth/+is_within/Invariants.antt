-- No column so far has more levels.
use Rattle.std.proofs.Common.{◌≤◌, take, All}
use Rattle.sel_ffi.proofs.Common.{depth, type_of}
use Rattle.sel_ffi.proofs.depth.+is_within.Given as goal

abbrev pub invariant-are_within-loop-column : goal.invariant-are_within-loop-column
invariant-are_within-loop-column l = All (λ column. depth (type_of column) ≤ l.levels) (take l.column-index l.columns)
