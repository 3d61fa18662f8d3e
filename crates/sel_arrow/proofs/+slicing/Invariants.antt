-- The parts so far are slices of the columns.
use Rattle.std.proofs.Common.{◌≡◌, All, map, take}
use Rattle.sel_arrow.specs.Rows.{rows, buffers_held, type_of, IsField}
use Rattle.sel_arrow.proofs.NestedParts.{part_rows}
use Rattle.sel_arrow.proofs.+slicing.Given as goal

abbrev pub invariant-structure::parts_of-loop-column : goal.invariant-structure::parts_of-loop-column
invariant-structure::parts_of-loop-column l = record {
  rows : map rows l.parts.items ≡ map (part_rows l.off l.len) (take l.column-index l.columns);
  dtype : map type_of l.parts.items ≡ map type_of (take l.column-index l.columns);
  buffers : map buffers_held l.parts.items ≡ map buffers_held (take l.column-index l.columns);
  formed : All (IsField l.len) l.parts.items;
}
