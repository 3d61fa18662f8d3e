-- Buffers of any element type, and what columns over them have.
use Rattle.std.specs.Prelude.{◌≡◌, ℕ, ℤ, Bool, List, Option, None, Some, [], length, map, pos, ◌%◌}
use Rattle.sel_bits.specs.Bits as bits
use Rattle.sel_bits.specs.Storage.{BitsOf, IsPart}
use Rattle.sel_arrow.specs.Masked.{number_rows, part_of}
use Rattle.sel_arrow.specs.Shape.{Shape, of_null, of_int8, of_int16, of_int32, of_int64, of_uint8}
use Rattle.sel_arrow.specs.Shape.{of_uint16, of_uint32, of_uint64}
use Rattle.sel_arrow.specs.Value.{Value}
use Rattle.sel_arrow.specs.declared.column.Column.{Column}
use Rattle.sel_arrow.specs.declared.column.Column.TheVariants as column
use Rattle.sel_arrow.specs.declared.view.View.{View}
use Rattle.sel_ffi.specs.Held as handle
use Rattle.sel_ffi.specs.declared.shared_buffer.SharedBuffer.{SharedBuffer}
use Rattle.sel_ffi.specs.declared.shared_buffer.SharedBuffer.TheVariants.{Bits, Int8, Int16, Int32, Int64}
use Rattle.sel_ffi.specs.declared.shared_buffer.SharedBuffer.TheVariants.{UInt8, UInt16, UInt32, UInt64}
use Rattle.sel_ffi.specs.declared.shared_buffer.SharedBuffer.TheVariants.{Views}
use Rattle.sel_ffi.specs.HeldBuffer.{Held}

-- The handle's buffer is of these values, and they are a part of the lent ones.
abbrev pub IsPartOf : {X : Type 0} → (List X → SharedBuffer) → Held → List X → Type 0
IsPartOf {X} shared held lent =
    (values : List X) × (held ≡ Some (shared values)) × IsPart values lent

-- The handle's buffer is of bits of the lent bytes.
abbrev pub IsBitsOf : Held → List ℕ → Type 0
IsBitsOf held lent = (b : bits.Bits) × (held ≡ Some (Bits b)) × BitsOf b lent

-- The bits, 64-bit integers, bytes and views of a handle's buffer; none for another buffer.
abbrev pub bits_of : Held → List Bool
bits_of (Some (Bits b)) = b.bits
bits_of held = []

abbrev pub integers_of : Held → List ℤ
integers_of (Some (Int64 values)) = values
integers_of held = []

abbrev pub bytes_of : Held → List ℕ
bytes_of (Some (UInt8 values)) = values
bytes_of held = []

abbrev pub views_of : Held → List View
views_of (Some (Views values)) = values
views_of held = []

-- The validity of n rows in a handle's bitmap, from bit `first` on; none for an empty handle (Arrow
-- columnar format: validity bitmaps).
abbrev pub validity_over : Held → ℕ → ℕ → Option bits.Bits
validity_over (Some (Bits b)) first n = Some (part_of first n b)
validity_over held first n = None

-- The rows of the integers of a handle's buffer under a validity, their number, and their type.
abbrev pub rows_over : Held → Option bits.Bits → List Value
rows_over (Some (Int8 values)) validity = number_rows (λ x. x) values validity
rows_over (Some (Int16 values)) validity = number_rows (λ x. x) values validity
rows_over (Some (Int32 values)) validity = number_rows (λ x. x) values validity
rows_over (Some (Int64 values)) validity = number_rows (λ x. x) values validity
rows_over (Some (UInt8 values)) validity = number_rows pos values validity
rows_over (Some (UInt16 values)) validity = number_rows pos values validity
rows_over (Some (UInt32 values)) validity = number_rows pos values validity
rows_over (Some (UInt64 values)) validity = number_rows pos values validity
rows_over held validity = []

abbrev pub count_over : Held → ℕ
count_over (Some (Int8 values)) = length values
count_over (Some (Int16 values)) = length values
count_over (Some (Int32 values)) = length values
count_over (Some (Int64 values)) = length values
count_over (Some (UInt8 values)) = length values
count_over (Some (UInt16 values)) = length values
count_over (Some (UInt32 values)) = length values
count_over (Some (UInt64 values)) = length values
count_over held = 0

abbrev pub type_over : Held → Shape
type_over (Some (Int8 values)) = of_int8
type_over (Some (Int16 values)) = of_int16
type_over (Some (Int32 values)) = of_int32
type_over (Some (Int64 values)) = of_int64
type_over (Some (UInt8 values)) = of_uint8
type_over (Some (UInt16 values)) = of_uint16
type_over (Some (UInt32 values)) = of_uint32
type_over (Some (UInt64 values)) = of_uint64
type_over held = of_null

-- The bitmap of a handle's buffer; none for an empty handle.
abbrev pub bitmap_of : Held → Option bits.Bits
bitmap_of (Some (Bits b)) = Some b
bitmap_of held = None

-- The number of values of a handle's buffer, and the index of the first bit in its first byte.
abbrev pub length_of : Held → ℕ
length_of (Some (Bits b)) = length b.bits
length_of (Some (Views values)) = length values
length_of held = count_over held

abbrev pub first_of : Held → ℕ
first_of (Some (Bits b)) = b.offset % 8
first_of held = 0

-- The values of a column, also those in null slots: bits, integers, or views (Arrow columnar
-- format: fixed-size primitive layout, variable-size binary view layout).
abbrev pub values_in : Column → Option SharedBuffer
values_in (column.Boolean array) = Some (Bits array.values)
values_in (column.Int8 array) = Some (Int8 array.values)
values_in (column.Int16 array) = Some (Int16 array.values)
values_in (column.Int32 array) = Some (Int32 array.values)
values_in (column.Int64 array) = Some (Int64 array.values)
values_in (column.UInt8 array) = Some (UInt8 array.values)
values_in (column.UInt16 array) = Some (UInt16 array.values)
values_in (column.UInt32 array) = Some (UInt32 array.values)
values_in (column.UInt64 array) = Some (UInt64 array.values)
values_in (column.BinaryView array) = Some (Views array.views)
values_in (column.Utf8View array) = Some (Views array.bytes.views)
values_in other = None

-- The offsets of a column (Arrow columnar format: variable-size layouts).
abbrev pub offsets_in : Column → Option SharedBuffer
offsets_in (column.LargeBinary array) = Some (Int64 (map pos array.offsets))
offsets_in (column.LargeList' offsets p values validity) = Some (Int64 (map pos offsets))
offsets_in other = None

-- The bytes that the offsets of a column point into (Arrow columnar format: variable-size binary
-- layout).
abbrev pub bytes_in : Column → Option SharedBuffer
bytes_in (column.LargeBinary array) = Some (UInt8 array.values)
bytes_in other = None

-- The buffer of a handle's column.
abbrev pub of_column : (Column → Option SharedBuffer) → handle.Held → Held
of_column part None = None
of_column part (Some column) = part column.column
