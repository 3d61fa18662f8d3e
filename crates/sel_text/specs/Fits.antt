-- The values that a column of a type can have.
use Rattle.std.specs.Prelude.{ℕ, ℤ, ◌^◌, pos, negsuc, Bool, true, false, ◌&&◌, ◌==◌, nat_lt, List}
use Rattle.std.specs.Prelude.{length, IsTrue}
use Rattle.std.specs.Int.Signed.{mag}
use Rattle.std.specs.List.{list_all}
use Rattle.std.specs.Str.{is_utf8}
use Rattle.sel_arrow.specs.Rows.{rows, type_of}
use Rattle.sel_arrow.specs.Shape.{Shape, Shapes, no_shapes, next_shape, of_boolean, of_int8}
use Rattle.sel_arrow.specs.Shape.{of_int16, of_int32, of_int64, of_int128, of_uint8, of_uint16}
use Rattle.sel_arrow.specs.Shape.{of_uint32, of_uint64, of_uint128, of_large_binary, of_binary_view}
use Rattle.sel_arrow.specs.Shape.{of_utf8_view, of_large_list, of_fixed_size_list, is_struct_shape}
use Rattle.sel_arrow.specs.Value.{Value, Null, Truth, Number, Bytes, Items, Tuple, Values}
use Rattle.sel_arrow.specs.Value.{no_values, next_value, listed}
use Rattle.sel_arrow.specs.declared.column.Column.{Column}
use Rattle.sel_text.specs.Texts.{item_shape, part_shapes}

-- Whether a number is an unsigned integer of `bits` bits.
abbrev pub fits_unsigned : ℕ → ℤ → Bool
fits_unsigned bits (pos n) = nat_lt n (2 ^ bits)
fits_unsigned bits (negsuc n) = false

-- Whether a number fits an integer type; false for any other type (Arrow columnar format: data
-- types).
abbrev pub fits_number : Shape → ℤ → Bool
fits_number of_int8 z = nat_lt (mag z) (2 ^ 7)
fits_number of_int16 z = nat_lt (mag z) (2 ^ 15)
fits_number of_int32 z = nat_lt (mag z) (2 ^ 31)
fits_number of_int64 z = nat_lt (mag z) (2 ^ 63)
fits_number of_int128 z = nat_lt (mag z) (2 ^ 127)
fits_number of_uint8 z = fits_unsigned 8 z
fits_number of_uint16 z = fits_unsigned 16 z
fits_number of_uint32 z = fits_unsigned 32 z
fits_number of_uint64 z = fits_unsigned 64 z
fits_number of_uint128 z = fits_unsigned 128 z
fits_number shape z = false

-- Whether each number is a byte.
abbrev pub are_bytes : List ℕ → Bool
are_bytes bytes = list_all (λ byte. nat_lt byte 256) bytes

-- Whether bytes fit a type: any bytes fit a binary type, UTF-8 fits a string type (Arrow columnar
-- format: data types).
abbrev pub fits_bytes : Shape → List ℕ → Bool
fits_bytes of_large_binary bytes = are_bytes bytes
fits_bytes of_binary_view bytes = are_bytes bytes
fits_bytes of_utf8_view bytes = is_utf8 bytes
fits_bytes shape bytes = false

-- Whether a list of a list type can have n entries (Arrow columnar format: list layouts).
abbrev pub fits_count : Shape → ℕ → Bool
fits_count (of_large_list shape) n = true
fits_count (of_fixed_size_list shape size) n = n == size
fits_count shape n = false

-- Whether the type is boolean (Arrow columnar format: data types).
abbrev pub is_boolean_shape : Shape → Bool
is_boolean_shape of_boolean = true
is_boolean_shape shape = false

abbrev mutual
  -- Whether a value can be a row of a column of this type; null can be a row of any (Arrow columnar
  -- format: data types).
  pub fits : Shape → Value → Bool
  fits shape Null = true
  fits shape (Truth truth) = is_boolean_shape shape
  fits shape (Number number) = fits_number shape number
  fits shape (Bytes bytes) = fits_bytes shape bytes
  fits shape (Items entries) =
      fits_count shape (length (listed entries)) && all_fit (item_shape shape) entries
  fits shape (Tuple entries) = is_struct_shape shape && fields_fit (part_shapes shape) entries

  -- Whether each entry of a list fits the type.
  pub all_fit : Shape → Values → Bool
  all_fit shape no_values = true
  all_fit shape (next_value value entries) = fits shape value && all_fit shape entries

  -- Whether there is one value for each field type, and each fits its type (Arrow columnar format:
  -- struct layout).
  pub fields_fit : Shapes → Values → Bool
  fields_fit no_shapes no_values = true
  fields_fit no_shapes (next_value value entries) = false
  fields_fit (next_shape shape types) no_values = false
  fields_fit (next_shape shape types) (next_value value entries) =
      fits shape value && fields_fit types entries

-- The rows of a column fit its type.
abbrev pub RowsFit : Column → Type 0
RowsFit column = IsTrue (list_all (fits (type_of column)) (rows column))
