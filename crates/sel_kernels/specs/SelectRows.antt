-- Rows of several columns.
use Rattle.std.specs.Prelude.{Bool, ◌==◌, ◌&&◌, Any, List, map, length, count_by}
use Rattle.std.specs.List.{list_all}
use Rattle.sel_bits.specs.declared.faults.Limit.{Limit}
use Rattle.sel_arrow.specs.Rows.{rows, type_of}
use Rattle.sel_arrow.specs.Shape.{Shape}
use Rattle.sel_arrow.specs.Value.{Value}
use Rattle.sel_arrow.specs.declared.array_ref.ArrayRef.{ArrayRef}
use Rattle.sel_kernels.specs.Need.{exceeded_limits}
use Rattle.sel_kernels.specs.Pick.{take_rows, all_within}
use Rattle.sel_kernels.specs.Select.{select, effective_mask, is_true}

-- The rows of each column.
abbrev pub rows_of_arrays : List ArrayRef → List (List Value)
rows_of_arrays columns = map (λ c. rows c.column) columns

-- The type of each column.
abbrev pub type_of_each : List ArrayRef → List Shape
type_of_each columns = map (λ c. type_of c.column) columns

-- For each column the rows at the indices among those that the mask selects.
abbrev pub select_rows_of : List (List Value) → List Value → List Value → List (List Value)
select_rows_of columns mask indices =
    map (λ rows. take_rows (select rows (effective_mask mask)) indices) columns

-- Whether each column is as long as the mask, and each non-null index is less than the number of
-- mask rows that are valid and true.
abbrev pub selection_fits : List (List Value) → List Value → List Value → Bool
selection_fits columns mask indices =
    list_all (λ rows. length rows == length mask) columns
    && all_within (count_by is_true mask) indices

-- The limits that the result of some column exceeds.
abbrev pub exceeded_selected : List ArrayRef → List Value → List Value → Limit → Type 0
exceeded_selected columns mask indices limit =
    Any
    (λ c. exceeded_limits (type_of c.column)
    (take_rows (select (rows c.column) (effective_mask mask)) indices) limit)
    columns
