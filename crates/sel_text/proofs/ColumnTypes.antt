-- The list sizes in the type of a well-formed column.
use Rattle.std.proofs.Common.{◌≡◌, ℕ, true, refl, arith, ◌^◌, nat_lt}
use Rattle.sel_text.proofs.Common.{nat_tests, type_of, types_of_each, well_formed, all_well_formed, Column, Row_of-Column, end_of-Column, more_of-Column, LargeList', FixedSizeList', Struct', both, and_first, and_second, widths_written, all_widths_written}

mutual
  pub column_written : (c : Column) → well_formed c ≡ true → widths_written (type_of c) ≡ true
  column_written (LargeList' offsets p values validity) formed = column_written values (and_second _ _ formed)
  column_written (FixedSizeList' size len p values validity) formed =
      both (nat_lt size (2 ^ 64)) (widths_written (type_of values)) (grind (arith, nat_tests, formed)) (column_written values (and_second _ _ formed))
  column_written (Struct' len n fields validity) formed = columns_written len fields (and_second _ _ formed)
  column_written c formed = refl

  columns_written : {n : _} (len : ℕ) (fields : Row_of-Column n) → all_well_formed len fields ≡ true → all_widths_written (types_of_each fields) ≡ true
  columns_written len end_of-Column formed = refl
  columns_written len (more_of-Column column columns) formed =
      both (widths_written (type_of column)) (all_widths_written (types_of_each columns)) (column_written column (and_second _ _ (and_first _ (all_well_formed len columns) formed)))
      (columns_written len columns (and_second _ _ formed))
