-- What the internal steps of a filter return.
use Rattle.std.specs.Prelude.{◌≡◌, ◌*◌, ℕ, Bool, List, Option, Result, length, IfOk, IfErr}
use Rattle.std.specs.Option.{ForSome}
use Rattle.sel_bits.specs.Bits.{count_true}
use Rattle.sel_bits.specs.Faults.{IsOutOfMemory}
use Rattle.sel_bits.specs.declared.faults.PolarsError.{PolarsError}
use Rattle.sel_arrow.specs.Nested.{blocks}
use Rattle.sel_arrow.specs.Rows.{rows, row_count, type_of, IsWellFormed}
use Rattle.sel_arrow.specs.Shape.{Shape}
use Rattle.sel_arrow.specs.Value.{Value}
use Rattle.sel_arrow.specs.declared.array_ref.ArrayRef.{ArrayRef}
use Rattle.sel_arrow.specs.declared.column.Column.{Column}
use Rattle.sel_kernels.specs.Select.{select}

-- The result is a column of this type with those of these rows that the mask selects, or
-- `OutOfMemory`.
pub record KeepsColumn (result : Result ArrayRef PolarsError) (shape : Shape) (values : List Value)
    (mask : List Bool) : Type 0 where
  pub rows : IfOk result (λ kept. rows kept.column ≡ select values mask)
  pub dtype : IfOk result (λ kept. type_of kept.column ≡ shape)
  pub refusal : IfErr result IsOutOfMemory

-- The result is none, a column of this type with those blocks of `size` of these rows that the mask
-- selects, or `OutOfMemory`.
pub record KeepsBlocks (result : Result (Option Column) PolarsError) (size : ℕ) (shape : Shape)
    (values : List Value) (mask : List Bool) : Type 0 where
  pub blocks : IfOk result
      (λ kept. ForSome kept (λ column. blocks size (count_true mask) (rows column)
      ≡ select (blocks size (length mask) values) mask))
  pub count : IfOk result
      (λ kept. ForSome kept (λ column. row_count column ≡ count_true mask * size))
  pub dtype : IfOk result (λ kept. ForSome kept (λ column. type_of column ≡ shape))
  pub formed : IfOk result (λ kept. ForSome kept (λ column. IsWellFormed column))
  pub refusal : IfErr result IsOutOfMemory
