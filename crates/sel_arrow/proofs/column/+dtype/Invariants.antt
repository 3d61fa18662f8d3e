use Rattle.std.proofs.Common.{◌≡◌, map, take}
use Rattle.sel_arrow.proofs.Common.{shape_of, type_of}
use Rattle.sel_arrow.proofs.column.+dtype.Given as goal

-- The types so far are those of the columns.
abbrev pub invariant-dtypes_of-loop-column : goal.invariant-dtypes_of-loop-column
invariant-dtypes_of-loop-column l = map shape_of l.dtypes.items ≡ map type_of (take l.column-index l.columns)
