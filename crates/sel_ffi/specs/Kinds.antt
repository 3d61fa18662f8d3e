-- The types of columns, as numbers.
use Rattle.std.specs.Prelude.{ℕ, None, Some}
use Rattle.sel_arrow.specs.Rows.{type_of}
use Rattle.sel_arrow.specs.Shape.{Shape, of_null, of_boolean, of_int8, of_int16, of_int32, of_int64}
use Rattle.sel_arrow.specs.Shape.{of_int128, of_uint8, of_uint16, of_uint32, of_uint64, of_uint128}
use Rattle.sel_arrow.specs.Shape.{of_large_binary, of_binary_view, of_utf8_view, of_large_list}
use Rattle.sel_arrow.specs.Shape.{of_fixed_size_list, of_struct}
use Rattle.sel_ffi.specs.Held.{Held}

-- The number of a type.
abbrev pub kind_number : Shape → ℕ
kind_number of_null = 0
kind_number of_boolean = 1
kind_number of_int8 = 2
kind_number of_int16 = 3
kind_number of_int32 = 4
kind_number of_int64 = 5
kind_number of_int128 = 6
kind_number of_uint8 = 7
kind_number of_uint16 = 8
kind_number of_uint32 = 9
kind_number of_uint64 = 10
kind_number of_uint128 = 11
kind_number of_large_binary = 12
kind_number of_binary_view = 13
kind_number of_utf8_view = 14
kind_number (of_large_list s) = 15
kind_number (of_fixed_size_list s width) = 16
kind_number (of_struct fields) = 17

-- The number of the type of a handle's column, or that of an empty handle.
abbrev pub held_kind : Held → ℕ
held_kind None = 18
held_kind (Some column) = kind_number (type_of column.column)
