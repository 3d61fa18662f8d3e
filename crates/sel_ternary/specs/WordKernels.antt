-- The columns whose if-then-else has a kernel by the words of the mask, for its internal steps.
use Rattle.std.specs.Prelude.{◌≡◌, ◌≤◌, ◌+◌, ⊤, ℕ, Bool, true, false, List, [], ◌∷◌, Option, Result, length}
use Rattle.std.specs.Prelude.{IfErr, IfOk, IfSome}
use Rattle.sel_bits.specs.Limits.{max_buffers}
use Rattle.sel_bits.specs.declared.faults.PolarsError.{PolarsError}
use Rattle.sel_arrow.specs.Rows.{rows, type_of}
use Rattle.sel_arrow.specs.Shape.{Shape, of_null, of_large_binary, of_large_list}
use Rattle.sel_arrow.specs.Shape.{of_fixed_size_list, of_struct}
use Rattle.sel_arrow.specs.Value.{Value}
use Rattle.sel_arrow.specs.declared.array_ref.ArrayRef.{ArrayRef}
use Rattle.sel_arrow.specs.declared.column.Column.{Column}
use Rattle.sel_gather.specs.Need.{ExceedsNone, IsLimitOrMemory, exceeded_taken}

-- Whether columns of this type have such a kernel.
abbrev pub has_word_kernel : Shape → Bool
has_word_kernel of_null = false
has_word_kernel of_large_binary = false
has_word_kernel (of_large_list s) = false
has_word_kernel (of_fixed_size_list s width) = false
has_word_kernel (of_struct ss) = false
has_word_kernel s = true

-- The number of data buffers of the first view column; 0 if there is none (Arrow columnar format:
-- variable-size binary view layout).
abbrev pub first_count : List (List (List ℕ)) → ℕ
first_count [] = 0
first_count (buffers ∷ others) = length buffers

-- Two columns, or a column and a scalar, have no more data buffers than one column can have.
abbrev pub HasRoom : Bool → Bool → ℕ → ℕ → Type 0
HasRoom false false trues falses = ⊤
HasRoom _ _ trues falses = trues + falses ≤ max_buffers

-- A column of this type with these rows of these columns, which exceed no limit, or no column; or
-- an error: out of memory, or a limit that they exceed.
pub record ChoosesSome (result : Result (Option ArrayRef) PolarsError) (shape : Shape)
    (columns : List Column) (values : List Value) : Type 0 where
  pub rows : IfOk result (λ made. IfSome made (λ chosen. rows chosen.column ≡ values))
  pub dtype : IfOk result (λ made. IfSome made (λ chosen. type_of chosen.column ≡ shape))
  pub within : IfOk result
      (λ made. IfSome made (λ chosen. ExceedsNone (exceeded_taken shape columns values)))
  pub refusal : IfErr result (IsLimitOrMemory (exceeded_taken shape columns values))
