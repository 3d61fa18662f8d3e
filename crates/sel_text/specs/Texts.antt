-- The row text of a column.
use Rattle.std.specs.Prelude.{ℕ, ◌/◌, ◌%◌, Bool, true, false, List, [], ◌∷◌, ◌++◌, map, codes}
use Rattle.std.specs.Prelude.{if◌then◌else◌, ◌==◌, nat_lt}
use Rattle.std.specs.Char.{digit_char}
use Rattle.std.specs.Fmt.{signed_decimal}
use Rattle.std.specs.List.{flat_map, join_with_byte}
use Rattle.sel_arrow.specs.Rows.{rows}
use Rattle.sel_arrow.specs.Shape.{Shape, Shapes, no_shapes, next_shape, of_large_list}
use Rattle.sel_arrow.specs.Shape.{of_fixed_size_list, of_struct, of_utf8_view}
use Rattle.sel_arrow.specs.Value.{Value, Null, Truth, Number, Bytes, Items, Tuple, Values}
use Rattle.sel_arrow.specs.Value.{no_values, next_value}

-- A byte as two hexadecimal digits, in lower case.
abbrev pub hex_byte : ℕ → List ℕ
hex_byte byte = digit_char (byte / 16) ∷ digit_char (byte % 16) ∷ []

-- Bytes in hexadecimal, as in `h"00ff"`.
abbrev pub hex_text : List ℕ → List ℕ
hex_text bytes = codes "h\"" ++ flat_map hex_byte bytes ++ 34 ∷ []

-- A byte of a string between quotes; all but `"`, `\` and those less than a space are literal
-- (JSON: strings).
abbrev pub escaped : ℕ → List ℕ
escaped byte =
    if byte == 34 then codes "\\\"" else
    if byte == 92 then codes "\\\\" else
    if byte == 10 then codes "\\n" else
    if byte == 13 then codes "\\r" else
    if byte == 9 then codes "\\t" else
    if byte == 8 then codes "\\b" else
    if byte == 12 then codes "\\f" else
    if nat_lt byte 32 then codes "\\u00" ++ hex_byte byte else byte ∷ []

-- A string in quotes, as in `"x\n"` (JSON: strings).
abbrev pub quoted : List ℕ → List ℕ
quoted text = 34 ∷ flat_map escaped text ++ 34 ∷ []

-- Whether the type is a string type (Arrow columnar format: Utf8).
abbrev pub is_text_shape : Shape → Bool
is_text_shape of_utf8_view = true
is_text_shape shape = false

-- The row text of bytes: quoted for a string type, else hexadecimal.
abbrev pub bytes_text : Shape → List ℕ → List ℕ
bytes_text shape bytes = if is_text_shape shape then quoted bytes else hex_text bytes

-- The row text of a boolean (JSON: literals).
abbrev pub bool_text : Bool → List ℕ
bool_text truth = if truth then codes "true" else codes "false"

-- Row texts in brackets, separated by commas, as in `[1,2]` (JSON: arrays).
abbrev pub bracketed : List (List ℕ) → List ℕ
bracketed texts = 91 ∷ join_with_byte 44 texts ++ 93 ∷ []

-- Row texts in parentheses, separated by commas, as in `(1,2)`.
abbrev pub parenthesized : List (List ℕ) → List ℕ
parenthesized texts = 40 ∷ join_with_byte 44 texts ++ 41 ∷ []

-- The entry type of a list type; any other type itself (Arrow columnar format: list layouts).
abbrev pub item_shape : Shape → Shape
item_shape (of_large_list shape) = shape
item_shape (of_fixed_size_list shape size) = shape
item_shape shape = shape

-- The field types of a struct type; none for any other type (Arrow columnar format: struct layout).
abbrev pub part_shapes : Shape → Shapes
part_shapes (of_struct types) = types
part_shapes shape = no_shapes

abbrev mutual
  -- The row text of a value of this type.
  pub value_text : Shape → Value → List ℕ
  value_text shape Null = codes "null"
  value_text shape (Truth truth) = bool_text truth
  value_text shape (Number number) = signed_decimal number
  value_text shape (Bytes bytes) = bytes_text shape bytes
  value_text shape (Items entries) = bracketed (item_texts (item_shape shape) entries)
  value_text shape (Tuple entries) = parenthesized (part_texts (part_shapes shape) entries)

  -- The row texts of values of one type.
  pub item_texts : Shape → Values → List (List ℕ)
  item_texts shape no_values = []
  item_texts shape (next_value value entries) = value_text shape value ∷ item_texts shape entries

  -- The row texts of values, each of its own type.
  pub part_texts : Shapes → Values → List (List ℕ)
  part_texts types no_values = []
  part_texts no_shapes (next_value value entries) = []
  part_texts (next_shape shape types) (next_value value entries) =
      value_text shape value ∷ part_texts types entries

-- The row text of rows of this type, as in `[1,null,-3]`.
abbrev pub text_of : Shape → List Value → List ℕ
text_of shape rows = bracketed (map (value_text shape) rows)
