-- The rows and the type of a column, and whether it is well-formed.
use Rattle.std.specs.Prelude.{◌≡◌, ℕ, ◌*◌, Bool, true, ◌&&◌, nat_le, ◌==◌, List, [], ◌∷◌, ◌++◌}
use Rattle.std.specs.Prelude.{length, IsTrue}
use Rattle.sel_arrow.specs.Value.{Value}
use Rattle.sel_bits.specs.Validity.{covers}
use Rattle.sel_arrow.specs.Masked.{is_few}
use Rattle.sel_arrow.specs.Nested.{list_rows, block_rows, struct_rows}
use Rattle.sel_arrow.specs.Shape.{Shape, Shapes, no_shapes, next_shape, of_large_list}
use Rattle.sel_arrow.specs.Shape.{of_fixed_size_list, of_struct, of_null, of_boolean, of_int8}
use Rattle.sel_arrow.specs.Shape.{of_int16, of_int32, of_int64, of_int128, of_uint8, of_uint16}
use Rattle.sel_arrow.specs.Shape.{of_uint32, of_uint64, of_uint128, of_large_binary, of_binary_view}
use Rattle.sel_arrow.specs.Shape.{of_utf8_view}
use Rattle.sel_arrow.specs.Columns.{null_rows, boolean_rows, primitive_rows, binary_rows}
use Rattle.sel_arrow.specs.Columns.{binview_rows, utf8view_rows}
use Rattle.sel_arrow.specs.Pieces.{rows_between, last_offset, is_rising}
use Rattle.sel_arrow.specs.declared.column.Column.{Column, Row_of-Column, end_of-Column}
use Rattle.sel_arrow.specs.declared.column.Column.{more_of-Column}
use Rattle.sel_arrow.specs.declared.column.Column.TheVariants.{Null as NullColumn, Boolean, Int8}
use Rattle.sel_arrow.specs.declared.column.Column.TheVariants.{Int16, Int32, Int64, Int128, UInt8}
use Rattle.sel_arrow.specs.declared.column.Column.TheVariants.{UInt16, UInt32, UInt64, UInt128}
use Rattle.sel_arrow.specs.declared.column.Column.TheVariants.{LargeBinary, BinaryView, Utf8View}
use Rattle.sel_arrow.specs.declared.column.Column.TheVariants.{LargeList', FixedSizeList', Struct'}

abbrev mutual
  -- The rows of a column, by its layout (Arrow columnar format: physical memory layouts).
  pub rows : Column → List Value
  rows (NullColumn column) = null_rows column
  rows (Boolean column) = boolean_rows column
  rows (Int8 column) = primitive_rows column
  rows (Int16 column) = primitive_rows column
  rows (Int32 column) = primitive_rows column
  rows (Int64 column) = primitive_rows column
  rows (Int128 column) = primitive_rows column
  rows (UInt8 column) = primitive_rows column
  rows (UInt16 column) = primitive_rows column
  rows (UInt32 column) = primitive_rows column
  rows (UInt64 column) = primitive_rows column
  rows (UInt128 column) = primitive_rows column
  rows (LargeBinary column) = binary_rows column
  rows (BinaryView column) = binview_rows column
  rows (Utf8View column) = utf8view_rows column
  rows (LargeList' offsets p values validity) = list_rows offsets (rows values) validity
  rows (FixedSizeList' size len p values validity) = block_rows size len (rows values) validity
  rows (Struct' len n fields validity) = struct_rows len (rows_of_each fields) validity

  -- The rows of each column.
  pub rows_of_each : {n : _} → Row_of-Column n → List (List Value)
  rows_of_each end_of-Column = []
  rows_of_each (more_of-Column column columns) = rows column ∷ rows_of_each columns

-- The number of rows of a column.
abbrev pub row_count : Column → ℕ
row_count (NullColumn column) = column.length
row_count (Boolean column) = length column.values.bits
row_count (Int8 column) = length column.values
row_count (Int16 column) = length column.values
row_count (Int32 column) = length column.values
row_count (Int64 column) = length column.values
row_count (Int128 column) = length column.values
row_count (UInt8 column) = length column.values
row_count (UInt16 column) = length column.values
row_count (UInt32 column) = length column.values
row_count (UInt64 column) = length column.values
row_count (UInt128 column) = length column.values
row_count (LargeBinary column) = rows_between column.offsets
row_count (BinaryView column) = length column.views
row_count (Utf8View column) = length column.bytes.views
row_count (LargeList' offsets p values validity) = rows_between offsets
row_count (FixedSizeList' size len p values validity) = len
row_count (Struct' len n fields validity) = len

abbrev mutual
  -- The type of a column (Arrow columnar format: data types).
  pub type_of : Column → Shape
  type_of (NullColumn column) = of_null
  type_of (Boolean column) = of_boolean
  type_of (Int8 column) = of_int8
  type_of (Int16 column) = of_int16
  type_of (Int32 column) = of_int32
  type_of (Int64 column) = of_int64
  type_of (Int128 column) = of_int128
  type_of (UInt8 column) = of_uint8
  type_of (UInt16 column) = of_uint16
  type_of (UInt32 column) = of_uint32
  type_of (UInt64 column) = of_uint64
  type_of (UInt128 column) = of_uint128
  type_of (LargeBinary column) = of_large_binary
  type_of (BinaryView column) = of_binary_view
  type_of (Utf8View column) = of_utf8_view
  type_of (LargeList' offsets p values validity) = of_large_list (type_of values)
  type_of (FixedSizeList' size len p values validity) = of_fixed_size_list (type_of values) size
  type_of (Struct' len n fields validity) = of_struct (types_of_each fields)

  -- The types of several columns.
  pub types_of_each : {n : _} → Row_of-Column n → Shapes
  types_of_each end_of-Column = no_shapes
  types_of_each (more_of-Column column columns) =
      next_shape (type_of column) (types_of_each columns)

abbrev mutual
  -- The data buffers of each view column in a tree of columns, in order (Arrow columnar format:
  -- variable-size binary view layout).
  pub buffers_held : Column → List (List (List ℕ))
  buffers_held (LargeList' offsets p values validity) = buffers_held values
  buffers_held (FixedSizeList' size len p values validity) = buffers_held values
  buffers_held (Struct' len n fields validity) = buffers_of_each fields
  buffers_held (BinaryView column) = column.buffers ∷ []
  buffers_held (Utf8View column) = column.bytes.buffers ∷ []
  buffers_held column = []

  -- The same for several columns, concatenated.
  pub buffers_of_each : {n : _} → Row_of-Column n → List (List (List ℕ))
  buffers_of_each end_of-Column = []
  buffers_of_each (more_of-Column column columns) = buffers_held column ++ buffers_of_each columns

abbrev mutual
  -- Whether the parts of a column fit together, at every depth; those of a column without children
  -- always do, by the invariant of its type (Arrow columnar format: physical memory layouts; the
  -- limits are those of this library).
  pub well_formed : Column → Bool
  well_formed (NullColumn column) = true
  well_formed (Boolean column) = true
  well_formed (Int8 column) = true
  well_formed (Int16 column) = true
  well_formed (Int32 column) = true
  well_formed (Int64 column) = true
  well_formed (Int128 column) = true
  well_formed (UInt8 column) = true
  well_formed (UInt16 column) = true
  well_formed (UInt32 column) = true
  well_formed (UInt64 column) = true
  well_formed (UInt128 column) = true
  well_formed (LargeBinary column) = true
  well_formed (BinaryView column) = true
  well_formed (Utf8View column) = true
  well_formed (LargeList' offsets p values validity) =
      is_rising offsets && is_few (rows_between offsets)
      && nat_le (last_offset offsets) (row_count values)
      && covers validity (rows_between offsets) && well_formed values
  well_formed (FixedSizeList' size len p values validity) =
      is_few len && is_few size && (row_count values == len * size)
      && covers validity len && well_formed values
  well_formed (Struct' len n fields validity) =
      is_few len && covers validity len && all_well_formed len fields

  -- Whether each column is well-formed and has `len` rows (Arrow columnar format: struct layout).
  pub all_well_formed : {n : _} → ℕ → Row_of-Column n → Bool
  all_well_formed len end_of-Column = true
  all_well_formed len (more_of-Column column columns) =
      (row_count column == len) && well_formed column && all_well_formed len columns

-- The same as a proposition.
abbrev pub IsWellFormed : Column → Type 0
IsWellFormed column = IsTrue (well_formed column)

-- The column is well-formed and has `len` rows (Arrow columnar format: struct layout).
abbrev pub IsField : ℕ → Column → Type 0
IsField len column = (row_count column ≡ len) × IsWellFormed column
