-- Elements of fixed-size lists, with one index for each list.
use Rattle.std.specs.Prelude.{◌≡◌, ℕ, ℤ, Bool, true, false, ◌&&◌, not, List, map, length}
use Rattle.std.specs.Prelude.{replicate, Option, None, slice_index_or}
use Rattle.std.specs.List.{list_any, range_with_len}
use Rattle.std.specs.Option.{is_none}
use Rattle.sel_bits.specs.Place.{place}
use Rattle.sel_bits.specs.declared.faults.Limit.{Limit}
use Rattle.sel_bits.specs.declared.faults.PolarsError.{PolarsError}
use Rattle.sel_bits.specs.declared.faults.PolarsError.TheVariants.{ComputeError}
use Rattle.sel_arrow.specs.NestedArrays.{block_column}
use Rattle.sel_arrow.specs.Rows.{rows, type_of}
use Rattle.sel_arrow.specs.Value.{Value, Null, Number, Items, listed, is_null}
use Rattle.sel_arrow.specs.declared.fixed_size_list.FixedSizeListArray.{FixedSizeListArray}
use Rattle.sel_gather.specs.Need.{exceeded_limits, IsLimitOrMemory}
use Rattle.sel_kernels.specs.Elements.{element_at}

-- The position of an index among n entries; none if the index is null or out of bounds (polars:
-- list indices).
abbrev pub place_of : ℕ → Value → Option ℕ
place_of n (Number index) = place index n
place_of n value = None

-- The element of a row at an index; null if the row is null, or the index is null or out of bounds.
abbrev pub entry_of : ℕ → Value → Value → Value
entry_of width (Items entries) index = element_at (listed entries) (place_of width index)
entry_of width row index = Null

-- Entry k is the element of row k at index k.
abbrev pub fixed_get : List Value → ℕ → List Value → List Value
fixed_get rows width indices =
    map (λ k. entry_of width (slice_index_or rows k Null) (slice_index_or indices k Null))
    (range_with_len 0 (length rows))

-- Whether a row is not null and its index is null or out of bounds.
abbrev pub lacks_entry : ℕ → Value → Value → Bool
lacks_entry width row index = not (is_null row) && is_none (place_of width index)

-- Whether the index of some row that is not null is null or out of bounds.
abbrev pub any_out_of_bounds : List Value → ℕ → List Value → Bool
any_out_of_bounds rows width indices =
    list_any (λ k. lacks_entry width (slice_index_or rows k Null) (slice_index_or indices k Null))
    (range_with_len 0 (length rows))

-- ---- fixed-size list columns

-- The same index for each list (polars: element access of fixed-size lists).
abbrev pub at_each : FixedSizeListArray → ℤ → List Value
at_each arr index = replicate arr.len (Number index)

-- Whether `null_on_oob` is false and the index of some list that is not null is null or out of
-- bounds (polars: element access of fixed-size lists).
abbrev pub is_get_error : Bool → FixedSizeListArray → List Value → Bool
is_get_error null_on_oob arr indices =
    not null_on_oob && any_out_of_bounds (rows (block_column arr)) arr.size indices

-- The limits that the elements exceed.
abbrev pub exceeded_entries : FixedSizeListArray → List Value → Limit → Type 0
exceeded_entries arr indices limit =
    exceeded_limits (type_of arr.values.value)
    (fixed_get (rows (block_column arr)) arr.size indices) limit

-- `ComputeError` implies that `is_get_error` is true. Any other error implies that it is false,
-- and is out of memory or a limit that the elements exceed.
abbrev pub IsGetError : Bool → FixedSizeListArray → List Value → PolarsError → Type 0
IsGetError null_on_oob arr indices ComputeError = is_get_error null_on_oob arr indices ≡ true
IsGetError null_on_oob arr indices fault = (is_get_error null_on_oob arr indices ≡ false)
    × IsLimitOrMemory (exceeded_entries arr indices) fault
