-- Columns without rows.
use Rattle.std.specs.Prelude.{◌≡◌, [], Result, IfOk, IfErr}
use Rattle.sel_bits.specs.Faults.{IsOutOfMemory}
use Rattle.sel_bits.specs.declared.faults.PolarsError.{PolarsError}
use Rattle.sel_arrow.specs.Rows.{rows, type_of, IsWellFormed}
use Rattle.sel_arrow.specs.Shape.{Shape}
use Rattle.sel_arrow.specs.declared.column.Column.{Column}

-- The result is a well-formed column of this type without rows, or `OutOfMemory`.
pub record MakesEmpty (result : Result Column PolarsError) (shape : Shape) : Type 0 where
  pub rows : IfOk result (λ column. rows column ≡ [])
  pub dtype : IfOk result (λ column. type_of column ≡ shape)
  pub formed : IfOk result (λ column. IsWellFormed column)
  pub refusal : IfErr result IsOutOfMemory
