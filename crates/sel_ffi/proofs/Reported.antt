-- A clone of a column is as long as the column.
use Rattle.std.proofs.Common.{◌≡◌, length, sym, ap, ◌∙◌}
use Rattle.sel_ffi.proofs.Common.{rows, row_count, Column}
use Rattle.sel_arrow.proofs.NestedRows.{length-rows}

-- Columns with equal rows are equally long.
pub same_count : (c d : Column) → rows c ≡ rows d → row_count c ≡ row_count d
same_count c d same = sym (length-rows c) ∙ ap length same ∙ length-rows d
