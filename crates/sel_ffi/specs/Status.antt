-- Status codes, and what calls with a status guarantee.
use Rattle.std.specs.Prelude.{◌≡◌, ◌≢◌, ◌≤◌, ℕ, ◌==◌, cond, List, Option, None, Some, [], ◌∷◌, true}
use Rattle.std.specs.Prelude.{◌⊎◌}
use Rattle.std.specs.List.{list_any}
use Rattle.std.specs.Option.{IsSomeAnd}
use Rattle.sel_bits.specs.declared.faults.Limit.{Limit}
use Rattle.sel_bits.specs.declared.faults.Limit.TheVariants as limit
use Rattle.sel_bits.specs.declared.faults.Malformed.{Malformed}
use Rattle.sel_bits.specs.declared.faults.Malformed.TheVariants as rule
use Rattle.sel_bits.specs.declared.faults.MakeError.{MakeError}
use Rattle.sel_bits.specs.declared.faults.MakeError.TheVariants as make
use Rattle.sel_bits.specs.declared.faults.PolarsError.{PolarsError}
use Rattle.sel_bits.specs.declared.faults.PolarsError.TheVariants as error
use Rattle.sel_arrow.specs.Rows.{rows, row_count, type_of, buffers_held}
use Rattle.sel_arrow.specs.Shape.{Shape, of_null}
use Rattle.sel_arrow.specs.Value.{Value}
use Rattle.sel_arrow.specs.declared.array_ref.ArrayRef.{ArrayRef}
use Rattle.sel_arrow.specs.declared.column.Column.{Column}
use Rattle.sel_ffi.specs.Held.{Held}

-- Success.
abbrev pub ok : ℕ
ok = 0

-- Out of memory: an allocation failed.
abbrev pub out_of_memory : ℕ
out_of_memory = 1

-- A handle that must have a column is empty.
abbrev pub no_column : ℕ
no_column = 2

-- The column has a type that the call does not support.
abbrev pub unsupported_type : ℕ
unsupported_type = 3

-- The columns do not have the same type.
abbrev pub type_mismatch : ℕ
type_mismatch = 4

-- Lengths do not match.
abbrev pub length_mismatch : ℕ
length_mismatch = 5

-- An index, a key or a row reference is out of bounds.
abbrev pub index_out_of_bounds : ℕ
index_out_of_bounds = 6

-- A list that is not null has no element at the index.
abbrev pub list_index_out_of_bounds : ℕ
list_index_out_of_bounds = 7

-- The column would be nested more than 128 levels deep.
abbrev pub too_deep : ℕ
too_deep = 12

-- Syntax error in the type.
abbrev pub type_syntax : ℕ
type_syntax = 32

-- Syntax error in the row text.
abbrev pub row_syntax : ℕ
row_syntax = 33

-- A value in the row text does not fit the type.
abbrev pub row_type_mismatch : ℕ
row_type_mismatch = 34

-- The type or the rows exceed a size limit, or the type is nested too deeply.
abbrev pub text_limit : ℕ
text_limit = 35

-- The status of an exceeded limit.
abbrev pub limit_status : Limit → ℕ
limit_status limit.Rows = 8
limit_status limit.Bytes = 9
limit_status limit.Buffers = 10
limit_status limit.ViewBytes = 11

-- The status of a kernel's error.
abbrev pub error_status : PolarsError → ℕ
error_status error.OutOfMemory = out_of_memory
error_status (error.SizeLimit limit) = limit_status limit
error_status error.ComputeError = list_index_out_of_bounds

-- The status of a broken rule.
abbrev pub rule_status : Malformed → ℕ
rule_status rule.OffsetCount = 16
rule_status rule.OffsetNegative = 17
rule_status rule.OffsetOrder = 18
rule_status rule.TooManyRows = 19
rule_status rule.TooManyBuffers = 20
rule_status rule.Width = 21
rule_status rule.OffsetRange = 22
rule_status rule.ChildLength = 23
rule_status rule.FieldLength = 24
rule_status rule.ValidityLength = 25
rule_status rule.ViewRange = 26
rule_status rule.ViewPrefix = 27
rule_status rule.Utf8 = 28

-- The status of an error in building a column.
abbrev pub make_status : MakeError → ℕ
make_status (make.Malformed rule) = rule_status rule
make_status make.OutOfMemory = out_of_memory

-- The status is that of the broken rule; if no rule is broken, it is success or out of memory.
abbrev pub ReportsOnly : ℕ → Option Malformed → Type 0
ReportsOnly status None = status ≤ out_of_memory
ReportsOnly status (Some rule) = status ≡ rule_status rule

-- On success, the handle has a column with this property; on error, the handle is unchanged.
abbrev pub Makes : ℕ → Held → Held → (ArrayRef → Type 0) → Type 0
Makes status before after Holds = cond (status == ok) (IsSomeAnd after Holds) (after ≡ before)

-- The rows, and the type, of a handle's column; no rows and the null type for an empty handle.
abbrev pub held_rows : Held → List Value
held_rows None = []
held_rows (Some column) = rows column.column

abbrev pub held_type : Held → Shape
held_type None = of_null
held_type (Some column) = type_of column.column

-- The status is out of memory, or that of the first condition in the list that does not hold, or,
-- if all of them hold, one that the last argument allows.
abbrev pub ReturnsFirst : ℕ → List (ℕ × Type 0) → Type 0 → Type 0
ReturnsFirst status [] AllHold = (status ≡ out_of_memory) ⊎ AllHold
ReturnsFirst status (check ∷ checks) AllHold =
    (status ≡ out_of_memory) ⊎ ((status ≡ check.0) × (check.1 → ⊥))
    ⊎ (check.1 × ReturnsFirst status checks AllHold)

-- The status is one of these.
abbrev pub IsOneOf : ℕ → List ℕ → Type 0
IsOneOf status codes = list_any (λ code. code == status) codes ≡ true

-- The handle has a column.
abbrev pub HasColumn : Held → Type 0
HasColumn None = ⊥
HasColumn (Some column) = Unit {0}

-- The status is not success, nor one that the C functions return for their own checks.
abbrev pub IsOwnError : ℕ → Type 0
IsOwnError status =
    (status ≢ ok) × (status ≢ no_column) × (status ≢ unsupported_type) × (status ≢ type_mismatch)
    × (status ≢ length_mismatch) × (status ≢ index_out_of_bounds)

-- The status of a limit implies that the limit is exceeded.
abbrev pub ReportsLimits : ℕ → (Limit → Type 0) → Type 0
ReportsLimits status Past = (limit : Limit) → status ≡ limit_status limit → Past limit

-- Unless out of memory, the status is that of the broken rule, and success if no rule is broken.
abbrev pub ReportsExactly : ℕ → Option Malformed → Type 0
ReportsExactly status None = status ≤ out_of_memory
ReportsExactly status (Some rule) = status ≢ out_of_memory → status ≡ rule_status rule

-- The number of rows of a handle's column.
abbrev pub held_count : Held → ℕ
held_count None = 0
held_count (Some column) = row_count column.column

-- The data buffers of each view column in a handle's column (Arrow columnar format: variable-size
-- binary view layout).
abbrev pub held_buffer_lists : Held → List (List (List ℕ))
held_buffer_lists None = []
held_buffer_lists (Some column) = buffers_held column.column

-- A handle's column in a list, which is empty for an empty handle.
abbrev pub held_columns : Held → List Column
held_columns None = []
held_columns (Some column) = column.column ∷ []
