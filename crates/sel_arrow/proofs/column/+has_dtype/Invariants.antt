use Rattle.std.proofs.Common.{◌≡◌, map, take}
use Rattle.sel_arrow.proofs.Common.{shape_of, type_of}
use Rattle.sel_arrow.proofs.column.+has_dtype.Given as goal

-- The columns so far have the given types.
abbrev pub invariant-have_dtypes-loop-i : goal.invariant-have_dtypes-loop-i
invariant-have_dtypes-loop-i l = map type_of (take l.i l.columns) ≡ map shape_of (take l.i l.dtypes)
