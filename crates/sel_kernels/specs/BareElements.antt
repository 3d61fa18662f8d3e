-- Elements of fixed-size lists of integers without validities, for internal steps.
use Rattle.std.specs.Prelude.{◌≡◌, ℕ, ◌+◌, ◌*◌, ℤ, pos, List, length, map, Option, Result}
use Rattle.std.specs.Prelude.{slice_index_or, IfErr, IfOk, IfSome}
use Rattle.std.specs.List.{range_with_len}
use Rattle.std.specs.Option.{option_map}
use Rattle.sel_bits.specs.Faults.{IsOutOfMemory}
use Rattle.sel_bits.specs.Place.{place}
use Rattle.sel_bits.specs.declared.faults.PolarsError.{PolarsError}
use Rattle.sel_arrow.specs.Rows.{rows, type_of}
use Rattle.sel_arrow.specs.Shape.{Shape}
use Rattle.sel_arrow.specs.Value.{Value}
use Rattle.sel_arrow.specs.declared.array_ref.ArrayRef.{ArrayRef}
use Rattle.sel_kernels.specs.Elements.{element_at}

-- The child row of the element of list k at its index; none if the index is out of bounds (Arrow
-- columnar format: fixed-size list layout).
abbrev pub bare_place : ℕ → List ℤ → ℕ → Option ℕ
bare_place size indices k =
    option_map (λ i. k * size + i) (place (slice_index_or indices k (pos 0)) size)

-- The element of each list at its index, null if the index is out of bounds. List k is the child
-- rows from k * size up to (k + 1) * size.
abbrev pub bare_elements : List Value → ℕ → List ℤ → List Value
bare_elements child size indices =
    map (λ k. element_at child (bare_place size indices k)) (range_with_len 0 (length indices))

-- The result is a column of this type with these rows, or no column; or it is out of memory.
pub record MayMake (result : Result (Option ArrayRef) PolarsError) (shape : Shape)
    (values : List Value) : Type 0 where
  pub rows : IfOk result (λ made. IfSome made (λ array. rows array.column ≡ values))
  pub dtype : IfOk result (λ made. IfSome made (λ array. type_of array.column ≡ shape))
  pub refusal : IfErr result IsOutOfMemory
