-- Fixed-size list columns whose blocks a take copies as a whole, for its internal steps.
use Rattle.std.specs.Prelude.{◌≡◌, ℕ, ◌*◌, ◌<◌, pos, Bool, false, ◌&&◌, List, length, take, drop}
use Rattle.std.specs.Prelude.{slice_index_or, is_none, ◌⊎◌, Result, IfOk, IfErr}
use Rattle.sel_bits.specs.declared.faults.Limit.{Limit}
use Rattle.sel_bits.specs.declared.faults.PolarsError.{PolarsError}
use Rattle.sel_arrow.specs.Rows.{rows, row_count, type_of, IsWellFormed}
use Rattle.sel_arrow.specs.Shape.{Shape, of_fixed_size_list}
use Rattle.sel_arrow.specs.Value.{Value, Null, Number}
use Rattle.sel_arrow.specs.declared.column.Column.{Column}
use Rattle.sel_arrow.specs.declared.column.Column.TheVariants.{Int8, Int16, Int32, Int64, Int128}
use Rattle.sel_arrow.specs.declared.column.Column.TheVariants.{UInt8, UInt16, UInt32, UInt64}
use Rattle.sel_arrow.specs.declared.column.Column.TheVariants.{UInt128, FixedSizeList'}
use Rattle.sel_gather.specs.Need.{ExceedsRows, IsLimitOrMemory}

-- Whether a column is numeric and has no validity, or is a fixed-size list without a validity over
-- such a column.
abbrev pub is_bare : Column → Bool
is_bare (Int8 column) = is_none column.validity
is_bare (Int16 column) = is_none column.validity
is_bare (Int32 column) = is_none column.validity
is_bare (Int64 column) = is_none column.validity
is_bare (Int128 column) = is_none column.validity
is_bare (UInt8 column) = is_none column.validity
is_bare (UInt16 column) = is_none column.validity
is_bare (UInt32 column) = is_none column.validity
is_bare (UInt64 column) = is_none column.validity
is_bare (UInt128 column) = is_none column.validity
is_bare (FixedSizeList' size len p values validity) = is_none validity && is_bare values
is_bare column = false

-- Whether a column is a fixed-size list over such a column; the list itself may have a validity.
abbrev pub holds_bare : Column → Bool
holds_bare (FixedSizeList' size len p values validity) = is_bare values
holds_bare column = false

-- For each position k with an index i that is neither null nor negative, block k of `ys` equals
-- block i of `xs`. Block n of a list is its entries from n * size on, at most `size` of them.
abbrev pub HoldsBlocks : {A : Type 0} → ℕ → List A → List Value → List A → Type 0
HoldsBlocks size xs indices ys =
    (k i : ℕ) → k < length indices → slice_index_or indices k Null ≡ Number (pos i) →
    take size (drop (k * size) ys) ≡ take size (drop (i * size) xs)

-- The row limit is exceeded, at some depth, by the child of `count` rows of this fixed-size list
-- type.
abbrev pub exceeded_blocks : Shape → ℕ → Limit → Type 0
exceeded_blocks (of_fixed_size_list s width) count limit =
    ExceedsRows (count * width) limit ⊎ exceeded_blocks s (count * width) limit
exceeded_blocks s count limit = ⊥

-- The result is a column of this type and number of rows, with the blocks of these rows at the
-- indices; or an error: out of memory, or a limit that such columns exceed.
pub record TakesBlocks (result : Result Column PolarsError) (size : ℕ) (shape : Shape)
    (values indices : List Value) (total : ℕ) : Type 0 where
  pub blocks : IfOk result (λ taken. HoldsBlocks size values indices (rows taken))
  pub count : IfOk result (λ taken. row_count taken ≡ total)
  pub dtype : IfOk result (λ taken. type_of taken ≡ shape)
  pub formed : IfOk result (λ taken. IsWellFormed taken)
  pub refusal : IfErr result (IsLimitOrMemory (exceeded_blocks shape total))
