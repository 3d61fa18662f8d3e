use Rattle.std.proofs.Common.{◌≡◌, map, take}
use Rattle.sel_arrow.specs.Rows.{type_of}
use Rattle.sel_arrow.proofs.column.+same_dtype.Given as goal

-- The columns so far have the types of the other ones.
abbrev pub invariant-same_dtypes-loop-i : goal.invariant-same_dtypes-loop-i
invariant-same_dtypes-loop-i l = map type_of (take l.i l.columns) ≡ map type_of (take l.i l.others)
