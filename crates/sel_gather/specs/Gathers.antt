-- The precondition of gathering rows from several columns, and what each gather returns.
use Rattle.std.specs.Prelude.{◌≡◌, ◌≤◌, ℕ, All, List, Option, Result, IfErr, IfOk, IfSome}
use Rattle.std.specs.Prelude.{length}
use Rattle.std.specs.Borrow.{Bor}
use Rattle.sel_bits.specs.Limits.{max_rows}
use Rattle.sel_bits.specs.declared.faults.Limit.{Limit}
use Rattle.sel_bits.specs.declared.faults.PolarsError.{PolarsError}
use Rattle.sel_arrow.specs.Rows.{rows, type_of, IsWellFormed}
use Rattle.sel_arrow.specs.Shape.{Shape}
use Rattle.sel_arrow.specs.Value.{Value}
use Rattle.sel_arrow.specs.declared.array_ref.ArrayRef.{ArrayRef}
use Rattle.sel_arrow.specs.declared.column.Column.{Column}
use Rattle.sel_gather.specs.Need.{ExceedsNone, IsLimitOrMemory, exceeded_limits, exceeded_taken}
use Rattle.sel_runs.specs.Picks.{PickFits}
use Rattle.sel_gather.specs.Sources.{first_type, rows_of}

-- The sources are well-formed, each reference is null or refers to a row of a source, and there are
-- `count` of them, no more than a column can have rows.
pub record MayGather (sources : List (Bor Column)) (picks : List (Option (ℕ × ℕ))) (count : ℕ)
    : Type 0 where
  pub formed : All (λ c. IsWellFormed c.now) sources
  pub fits : All (PickFits (rows_of sources)) picks
  pub len : length picks ≡ count
  pub few : count ≤ max_rows

-- The sources are well-formed columns of this type, and each reference is null or refers to a row
-- of a source.
pub record MayGatherAs (sources : List (Bor Column)) (shape : Shape) (picks : List (Option (ℕ × ℕ)))
    : Type 0 where
  pub alike : All (λ c. type_of c.now ≡ shape) sources
  pub formed : All (λ c. IsWellFormed c.now) sources
  pub fits : All (PickFits (rows_of sources)) picks

-- A column of this type with these rows, which exceed no limit; or an error: out of memory, or a
-- limit that they exceed.
pub record Selects (result : Result ArrayRef PolarsError) (shape : Shape) (values : List Value)
    (exceeded : Limit → Type 0) : Type 0 where
  pub rows : IfOk result (λ array. rows array.column ≡ values)
  pub dtype : IfOk result (λ array. type_of array.column ≡ shape)
  pub within : IfOk result (λ array. ExceedsNone exceeded)
  pub refusal : IfErr result (IsLimitOrMemory exceeded)

-- The same of a column of any type that is well-formed: these rows of these columns of one type,
-- their own type.
pub record Collects (result : Result Column PolarsError) (shape : Shape) (columns : List Column)
    (values : List Value) : Type 0 where
  pub rows : IfOk result (λ column. rows column ≡ values)
  pub dtype : IfOk result (λ column. type_of column ≡ shape)
  pub formed : IfOk result (λ column. IsWellFormed column)
  pub within : IfOk result (λ column. ExceedsNone (exceeded_taken shape columns values))
  pub refusal : IfErr result (IsLimitOrMemory (exceeded_taken shape columns values))

-- The same, or no column.
pub record CollectsSome (result : Result (Option Column) PolarsError) (shape : Shape)
    (columns : List Column) (values : List Value) : Type 0 where
  pub rows : IfOk result (λ made. IfSome made (λ column. rows column ≡ values))
  pub dtype : IfOk result (λ made. IfSome made (λ column. type_of column ≡ shape))
  pub formed : IfOk result (λ made. IfSome made (λ column. IsWellFormed column))
  pub within : IfOk result
      (λ made. IfSome made (λ column. ExceedsNone (exceeded_taken shape columns values)))
  pub refusal : IfErr result (IsLimitOrMemory (exceeded_taken shape columns values))

-- The same for rows of one column of this type. The data buffers of views are those of the column.
abbrev pub SelectsFrom : Result ArrayRef PolarsError → Shape → List Value → Type 0
SelectsFrom result shape values = Selects result shape values (exceeded_limits shape values)

-- The same for rows of several columns of one type. The data buffers of views are those of all
-- columns.
abbrev pub GathersFrom : Result ArrayRef PolarsError → List Column → List Value → Type 0
GathersFrom result columns values =
    Selects result (first_type columns) values (exceeded_taken (first_type columns) columns values)
