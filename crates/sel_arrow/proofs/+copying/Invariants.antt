-- The copies so far are equal to the columns.
use Rattle.std.proofs.Common.{◌≡◌, All, map, take}
use Rattle.sel_arrow.specs.Rows.{rows, buffers_held, type_of, IsWellFormed}
use Rattle.sel_arrow.proofs.+copying.Given as goal

abbrev pub invariant-structure::copies_of-loop-column : goal.invariant-structure::copies_of-loop-column
invariant-structure::copies_of-loop-column l = record {
  rows : map rows l.copies.items ≡ map rows (take l.column-index l.columns);
  dtype : map type_of l.copies.items ≡ map type_of (take l.column-index l.columns);
  buffers : map buffers_held l.copies.items ≡ map buffers_held (take l.column-index l.columns);
  formed : All IsWellFormed l.copies.items;
}
