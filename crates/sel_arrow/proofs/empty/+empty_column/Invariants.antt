use Rattle.std.proofs.Common.{◌≡◌, map, take}
use Rattle.sel_arrow.proofs.Common.{All, shape_of, type_of, IsField}
use Rattle.sel_arrow.proofs.empty.+empty_column.Given as goal

-- The columns so far have the given types and no rows.
abbrev pub invariant-empty_columns-loop-dtype : goal.invariant-empty_columns-loop-dtype
invariant-empty_columns-loop-dtype l = record {
  dtypes : map type_of l.columns.items ≡ map shape_of (take l.dtype-index l.dtypes);
  fields : All (IsField 0) l.columns.items;
}
