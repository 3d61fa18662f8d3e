-- The columns over shared buffers: their rows, their rules, and what the functions that make one
-- state.
use Rattle.std.specs.Prelude.{◌≡◌, ◌+◌, ℕ, ℤ, All, Bool, List, [], ◌∷◌, false, true, length}
use Rattle.std.specs.Prelude.{nat_lt, Option, None, Some}
use Rattle.sel_bits.specs.Faults.{first_broken}
use Rattle.sel_bits.specs.Offsets.{offsets_fault}
use Rattle.sel_bits.specs.declared.faults.Malformed.{Malformed}
use Rattle.sel_bits.specs.declared.faults.Malformed.TheVariants.{ValidityLength}
use Rattle.sel_arrow.specs.Makers.{or_else, flat_fault, binary_fault, list_fault, block_fault}
use Rattle.sel_arrow.specs.Makers.{struct_fault, binview_fault, utf8view_fault}
use Rattle.sel_arrow.specs.Nested.{list_rows}
use Rattle.sel_arrow.specs.Pieces.{byte_rows, rows_between}
use Rattle.sel_arrow.specs.Rows.{rows, type_of}
use Rattle.sel_arrow.specs.Shape.{Shape}
use Rattle.sel_arrow.specs.Value.{Value}
use Rattle.sel_arrow.specs.Views.{view_rows}
use Rattle.sel_arrow.specs.declared.view.View.{View}
use Rattle.sel_ffi.specs.Held as handle
use Rattle.sel_ffi.specs.Inputs.{positions}
use Rattle.sel_ffi.specs.Status.{unsupported_type, Makes, ReportsExactly, ReturnsFirst}
use Rattle.sel_ffi.specs.Buffers.{bytes_of, count_over, integers_of, rows_over, validity_over, views_of}
use Rattle.sel_ffi.specs.HeldBuffer.{Held}
use Rattle.sel_ffi.specs.declared.buffer_ref.BufferRef.{BufferRef}
use Rattle.sel_ffi.specs.declared.shared_buffer.SharedBuffer.TheVariants.{Bits, Int8, Int16, Int32, Int64}
use Rattle.sel_ffi.specs.declared.shared_buffer.SharedBuffer.TheVariants.{UInt8, UInt16, UInt32, UInt64}
use Rattle.sel_ffi.specs.declared.shared_buffer.SharedBuffer.TheVariants.{Views}

-- On success, the handle has a column of this type with these rows; on error, it is unchanged. The
-- status is out of memory, that of the first condition that does not hold, that of the broken rule,
-- or success.
pub record MakesColumn (code : ℕ) (before after : handle.Held) (shape : Shape)
    (values : List Value) (conditions : List (ℕ × Type 0)) (fault : Option Malformed) : Type 0 where
  pub rows : Makes code before after (λ made. rows made.column ≡ values)
  pub dtype : Makes code before after (λ made. type_of made.column ≡ shape)
  pub checks : ReturnsFirst code conditions (ReportsExactly code fault)

-- Whether a handle has a bitmap, and a buffer of 64-bit integers, of bytes, and of views.
abbrev pub is_bitmap : Held → Bool
is_bitmap (Some (Bits b)) = true
is_bitmap held = false

abbrev pub is_int64_buffer : Held → Bool
is_int64_buffer (Some (Int64 values)) = true
is_int64_buffer held = false

abbrev pub is_byte_buffer : Held → Bool
is_byte_buffer (Some (UInt8 values)) = true
is_byte_buffer held = false

abbrev pub is_view_buffer : Held → Bool
is_view_buffer (Some (Views values)) = true
is_view_buffer held = false

-- Whether a handle has a buffer of integers.
abbrev pub is_integer_buffer : Held → Bool
is_integer_buffer (Some (Int8 values)) = true
is_integer_buffer (Some (Int16 values)) = true
is_integer_buffer (Some (Int32 values)) = true
is_integer_buffer (Some (Int64 values)) = true
is_integer_buffer (Some (UInt8 values)) = true
is_integer_buffer (Some (UInt16 values)) = true
is_integer_buffer (Some (UInt32 values)) = true
is_integer_buffer (Some (UInt64 values)) = true
is_integer_buffer held = false

-- Whether a handle's buffer can be a validity: it is a bitmap, or the handle is empty.
abbrev pub may_be_validity : Held → Bool
may_be_validity None = true
may_be_validity held = is_bitmap held

-- Whether a handle's bitmap has too few bits for n rows from bit `first` on.
abbrev pub lacks_bits_over : Held → ℕ → ℕ → Bool
lacks_bits_over (Some (Bits b)) first n = nat_lt (length b.bits) (first + n)
lacks_bits_over held first n = false

-- The rule that a validity has enough bits.
abbrev pub validity_rule_over : Held → ℕ → ℕ → Option Malformed
validity_rule_over validity first n =
    first_broken ((ValidityLength, lacks_bits_over validity first n) ∷ [])

-- The rows over a buffer of integers; here and below, their validity is the bits of a bitmap from
-- bit `first` on.
abbrev pub integer_rows_over : Held → Held → ℕ → List Value
integer_rows_over values validity first =
    rows_over values (validity_over validity first (count_over values))

-- The first broken rule of n integers or booleans.
abbrev pub flat_rules_over : ℕ → Held → ℕ → Option Malformed
flat_rules_over n validity first =
    or_else (validity_rule_over validity first n) (flat_fault n (validity_over validity first n))

-- The buffers of a binary column have the right element types.
abbrev pub binary_conditions : Held → Held → Held → List (ℕ × Type 0)
binary_conditions offsets bytes validity =
    (unsupported_type, is_byte_buffer bytes ≡ true)
    ∷ (unsupported_type, is_int64_buffer offsets ≡ true)
    ∷ (unsupported_type, may_be_validity validity ≡ true) ∷ []

-- The binary rows over buffers of offsets and of bytes.
abbrev pub binary_rows_over : Held → Held → Held → ℕ → List Value
binary_rows_over offsets bytes validity first =
    let ends = positions (integers_of offsets) in
    byte_rows ends (bytes_of bytes) (validity_over validity first (rows_between ends))

-- The first broken rule of binary rows over offsets and bytes.
abbrev pub binary_rules_over : List ℤ → List ℕ → Held → ℕ → Option Malformed
binary_rules_over offsets bytes validity first =
    let n = rows_between (positions offsets) in
    or_else (offsets_fault (λ x. x) offsets)
    (or_else (validity_rule_over validity first n)
    (binary_fault (positions offsets) bytes (validity_over validity first n)))

-- The list rows over a buffer of offsets and the rows of a column.
abbrev pub list_rows_over : Held → List Value → Held → ℕ → List Value
list_rows_over offsets values validity first =
    let ends = positions (integers_of offsets) in
    list_rows ends values (validity_over validity first (rows_between ends))

-- The first broken rule of lists over offsets, given the number of rows of the child.
abbrev pub list_rules_over : List ℤ → ℕ → Held → ℕ → Option Malformed
list_rules_over offsets child validity first =
    let n = rows_between (positions offsets) in
    or_else (offsets_fault (λ x. x) offsets)
    (or_else (validity_rule_over validity first n)
    (list_fault (positions offsets) child (validity_over validity first n)))

-- The first broken rule of n fixed-size lists, given the number of rows of the child.
abbrev pub block_rules_over : ℕ → ℕ → ℕ → Held → ℕ → Option Malformed
block_rules_over size n child validity first =
    or_else (validity_rule_over validity first n)
    (block_fault size n child (validity_over validity first n))

-- The first broken rule of n struct rows, given the number of rows of each field.
abbrev pub struct_rules_over : ℕ → List ℕ → Held → ℕ → Option Malformed
struct_rules_over n fields validity first =
    or_else (validity_rule_over validity first n)
    (struct_fault n fields (validity_over validity first n))

-- The buffers of a view column have the right element types.
abbrev pub view_conditions : Held → List BufferRef → Held → List (ℕ × Type 0)
view_conditions views buffers validity =
    (unsupported_type, is_view_buffer views ≡ true)
    ∷ (unsupported_type, may_be_validity validity ≡ true)
    ∷ (unsupported_type, All (λ handle. is_byte_buffer handle.buffer ≡ true) buffers) ∷ []

-- The binary or string rows over a buffer of views and the bytes of data buffers.
abbrev pub view_rows_over : Held → List (List ℕ) → Held → ℕ → List Value
view_rows_over views buffers validity first =
    view_rows (views_of views) buffers (validity_over validity first (length (views_of views)))

-- The first broken rule of binary views, and of string views.
abbrev pub binary_view_rules_over : List View → List (List ℕ) → Held → ℕ → Option Malformed
binary_view_rules_over views buffers validity first =
    or_else (validity_rule_over validity first (length views))
    (binview_fault views buffers (validity_over validity first (length views)))

abbrev pub string_view_rules_over : List View → List (List ℕ) → Held → ℕ → Option Malformed
string_view_rules_over views buffers validity first =
    or_else (validity_rule_over validity first (length views))
    (utf8view_fault views buffers (validity_over validity first (length views)))
