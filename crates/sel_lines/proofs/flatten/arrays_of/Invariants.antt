use Rattle.std.proofs.Common.{◌≡◌, All, map}
use Rattle.sel_lines.proofs.Common.{primitive_rows, rows, type_of, of_int64}
use Rattle.sel_lines.proofs.flatten.arrays_of.Given as goal

abbrev pub invariant-loop-part : goal.invariant-loop-part
invariant-loop-part l = record {
  same : map (λ a. rows a.column) l.arrays.items ≡ map (λ part. primitive_rows part.column) l.yielded;
  numbers : All (λ a. type_of a.column ≡ of_int64) l.arrays.items;
}
