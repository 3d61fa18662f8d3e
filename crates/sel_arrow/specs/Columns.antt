-- The rows of each type of column without children.
use Rattle.std.specs.Prelude.{List, replicate}
use Rattle.sel_bits.specs.declared.native.NativeType.{Ghosts}
use Rattle.sel_arrow.specs.Value.{Value, Null}
use Rattle.sel_arrow.specs.Masked.{number_rows, bool_rows}
use Rattle.sel_arrow.specs.Pieces.{byte_rows}
use Rattle.sel_arrow.specs.Views.{view_rows}
use Rattle.sel_arrow.specs.declared.binary.BinaryArray.{BinaryArray}
use Rattle.sel_arrow.specs.declared.binview.BinaryViewArray.{BinaryViewArray}
use Rattle.sel_arrow.specs.declared.boolean.BooleanArray.{BooleanArray}
use Rattle.sel_arrow.specs.declared.null.NullArray.{NullArray}
use Rattle.sel_arrow.specs.declared.primitive.PrimitiveArray.{PrimitiveArray}
use Rattle.sel_arrow.specs.declared.utf8view.Utf8ViewArray.{Utf8ViewArray}

-- Every row is null (Arrow columnar format: null layout).
abbrev pub null_rows : NullArray → List Value
null_rows column = replicate column.length Null

-- Row i is null if its validity bit is false, else boolean i (Arrow columnar format: fixed-size
-- primitive layout, one bit per value).
abbrev pub boolean_rows : BooleanArray → List Value
boolean_rows column = bool_rows column.values.bits column.validity

-- Row i is null if its validity bit is false, else integer i (Arrow columnar format: fixed-size
-- primitive layout).
abbrev pub primitive_rows : {T : Type 0} {type : Ghosts T} → PrimitiveArray T type → List Value
primitive_rows {T} {type} column = number_rows type.number column.values column.validity

-- Row i is null if its validity bit is false, else the bytes from offset i up to offset i + 1
-- (Arrow columnar format: variable-size binary layout).
abbrev pub binary_rows : {O : Type 0} {type : Ghosts O} → BinaryArray O type → List Value
binary_rows column = byte_rows column.offsets column.values column.validity

-- Row i is null if its validity bit is false, else the bytes of view i (Arrow columnar format:
-- variable-size binary view layout).
abbrev pub binview_rows : BinaryViewArray → List Value
binview_rows column = view_rows column.views column.buffers column.validity

-- The same for string views (Arrow columnar format: variable-size binary view layout).
abbrev pub utf8view_rows : Utf8ViewArray → List Value
utf8view_rows column = binview_rows column.bytes
