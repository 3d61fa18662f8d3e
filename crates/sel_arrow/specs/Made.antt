-- Columns that functions return.
use Rattle.std.specs.Prelude.{◌≡◌, ℕ, List, Result, IfOk, IfErr}
use Rattle.sel_bits.specs.Faults.{IsOutOfMemory}
use Rattle.sel_bits.specs.declared.faults.PolarsError.{PolarsError}
use Rattle.sel_arrow.specs.Rows.{rows, type_of, buffers_held, IsWellFormed}
use Rattle.sel_arrow.specs.Shape.{Shape}
use Rattle.sel_arrow.specs.Value.{Value}
use Rattle.sel_arrow.specs.declared.column.Column.{Column}

-- The result is a well-formed column with these rows, this type and these data buffers of each view
-- column in it, or `OutOfMemory`.
pub record MakesRows (result : Result Column PolarsError) (values : List Value) (shape : Shape)
    (held : List (List (List ℕ))) : Type 0 where
  pub rows : IfOk result (λ column. rows column ≡ values)
  pub dtype : IfOk result (λ column. type_of column ≡ shape)
  pub buffers : IfOk result (λ column. buffers_held column ≡ held)
  pub formed : IfOk result (λ column. IsWellFormed column)
  pub refusal : IfErr result IsOutOfMemory
