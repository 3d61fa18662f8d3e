-- The meaning of data types.
use Rattle.std.specs.Prelude.{◌≡◌, Bool, true, ◌&&◌, length}
use Rattle.sel_arrow.specs.Masked.{is_few}
use Rattle.sel_arrow.specs.Rows.{rows, type_of}
use Rattle.sel_arrow.specs.declared.column.Column.{Column}
use Rattle.sel_arrow.specs.Shape.{Shape, Shapes, no_shapes, next_shape, of_large_list}
use Rattle.sel_arrow.specs.Shape.{of_fixed_size_list, of_struct, of_null, of_boolean, of_int8}
use Rattle.sel_arrow.specs.Shape.{of_int16, of_int32, of_int64, of_int128, of_uint8, of_uint16}
use Rattle.sel_arrow.specs.Shape.{of_uint32, of_uint64, of_uint128, of_large_binary, of_binary_view}
use Rattle.sel_arrow.specs.Shape.{of_utf8_view}
use Rattle.sel_arrow.specs.declared.datatype.ArrowDataType.{ArrowDataType, Row_of-ArrowDataType}
use Rattle.sel_arrow.specs.declared.datatype.ArrowDataType.{end_of-ArrowDataType}
use Rattle.sel_arrow.specs.declared.datatype.ArrowDataType.{more_of-ArrowDataType}
use Rattle.sel_arrow.specs.declared.datatype.ArrowDataType.TheVariants.{Null, Boolean, Int8, Int16}
use Rattle.sel_arrow.specs.declared.datatype.ArrowDataType.TheVariants.{Int32, Int64, Int128, UInt8}
use Rattle.sel_arrow.specs.declared.datatype.ArrowDataType.TheVariants.{UInt16, UInt32, UInt64}
use Rattle.sel_arrow.specs.declared.datatype.ArrowDataType.TheVariants.{UInt128, LargeBinary}
use Rattle.sel_arrow.specs.declared.datatype.ArrowDataType.TheVariants.{BinaryView, Utf8View}
use Rattle.sel_arrow.specs.declared.datatype.ArrowDataType.TheVariants.{LargeList', FixedSizeList'}
use Rattle.sel_arrow.specs.declared.datatype.ArrowDataType.TheVariants.{Struct'}

abbrev mutual
  -- The layout of a type, at every depth (Arrow columnar format: data types).
  pub shape_of : ArrowDataType → Shape
  shape_of Null = of_null
  shape_of Boolean = of_boolean
  shape_of Int8 = of_int8
  shape_of Int16 = of_int16
  shape_of Int32 = of_int32
  shape_of Int64 = of_int64
  shape_of Int128 = of_int128
  shape_of UInt8 = of_uint8
  shape_of UInt16 = of_uint16
  shape_of UInt32 = of_uint32
  shape_of UInt64 = of_uint64
  shape_of UInt128 = of_uint128
  shape_of LargeBinary = of_large_binary
  shape_of BinaryView = of_binary_view
  shape_of Utf8View = of_utf8_view
  shape_of (LargeList' p child) = of_large_list (shape_of child)
  shape_of (FixedSizeList' p child size) = of_fixed_size_list (shape_of child) size
  shape_of (Struct' n fields) = of_struct (shapes_of_each fields)

  -- The layouts of several types.
  pub shapes_of_each : {n : _} → Row_of-ArrowDataType n → Shapes
  shapes_of_each end_of-ArrowDataType = no_shapes
  shapes_of_each (more_of-ArrowDataType dtype dtypes) =
      next_shape (shape_of dtype) (shapes_of_each dtypes)

abbrev mutual
  -- Whether each list size in a type, at every depth, is at most the maximum number of rows of a
  -- column.
  pub widths_fit : ArrowDataType → Bool
  widths_fit (LargeList' p child) = widths_fit child
  widths_fit (FixedSizeList' p child size) = is_few size && widths_fit child
  widths_fit (Struct' n fields) = all_widths_fit fields
  widths_fit dtype = true

  -- Whether this is so for each type.
  pub all_widths_fit : {n : _} → Row_of-ArrowDataType n → Bool
  all_widths_fit end_of-ArrowDataType = true
  all_widths_fit (more_of-ArrowDataType dtype dtypes) = widths_fit dtype && all_widths_fit dtypes

-- The rows of a column can be one list of this type: they have the type of its child, and a
-- fixed-size list has as many of them as its list size.
abbrev pub ScalarFits : Shape → Column → Type 0
ScalarFits (of_large_list s) scalar = type_of scalar ≡ s
ScalarFits (of_fixed_size_list s width) scalar =
    (type_of scalar ≡ s) × (length (rows scalar) ≡ width)
ScalarFits s scalar = ⊥
