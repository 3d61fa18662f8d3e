-- What the internal steps of a take return, and the limits that gathered fields exceed.
use Rattle.std.specs.Prelude.{◌≡◌, ◌⊎◌, List, [], ◌∷◌, Result, IfOk, IfErr}
use Rattle.sel_bits.specs.declared.faults.Limit.{Limit}
use Rattle.sel_bits.specs.declared.faults.PolarsError.{PolarsError}
use Rattle.sel_arrow.specs.Rows.{rows, type_of}
use Rattle.sel_arrow.specs.Shape.{Shape}
use Rattle.sel_arrow.specs.Value.{Value}
use Rattle.sel_arrow.specs.declared.array_ref.ArrayRef.{ArrayRef}
use Rattle.sel_arrow.specs.declared.column.Column.{Column}
use Rattle.sel_kernels.specs.Need.{IsLimitOrMemory, exceeded_limits}
use Rattle.sel_kernels.specs.Pick.{take_rows}

-- The limits that the rows of a column at the indices exceed, for one of the columns.
abbrev pub exceeded_in_taken : List Column → List Value → Limit → Type 0
exceeded_in_taken [] indices limit = ⊥
exceeded_in_taken (column ∷ columns) indices limit =
    exceeded_limits (type_of column) (take_rows (rows column) indices) limit
    ⊎ exceeded_in_taken columns indices limit

-- The result is a column of this type with these rows; or an error: out of memory, or a limit that
-- they exceed.
pub record TakesColumn (result : Result ArrayRef PolarsError) (shape : Shape) (values : List Value)
    : Type 0 where
  pub rows : IfOk result (λ taken. rows taken.column ≡ values)
  pub dtype : IfOk result (λ taken. type_of taken.column ≡ shape)
  pub refusal : IfErr result (IsLimitOrMemory (exceeded_limits shape values))
