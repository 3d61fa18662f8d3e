-- Arrays with children, as columns.
use Rattle.sel_bits.specs.declared.native.NativeType.{Ghosts}
use Rattle.sel_arrow.specs.declared.column.Column.{Column, LargeList, FixedSizeList, Struct}
use Rattle.sel_arrow.specs.declared.fixed_size_list.FixedSizeListArray.{FixedSizeListArray}
use Rattle.sel_arrow.specs.declared.list.ListArray.{ListArray}
use Rattle.sel_arrow.specs.declared.structure.StructArray.{StructArray}

-- A list array as a column (Arrow columnar format: variable-size list layout).
abbrev pub list_column : {O : Type 0} {type : Ghosts O} → ListArray O type → Column
list_column array = LargeList array.offsets array.values array.validity

-- A fixed-size list array as a column (Arrow columnar format: fixed-size list layout).
abbrev pub block_column : FixedSizeListArray → Column
block_column array = FixedSizeList array.size array.len array.values array.validity

-- A struct array as a column (Arrow columnar format: struct layout).
abbrev pub struct_column : StructArray → Column
struct_column array = Struct array.len array.fields array.validity
