-- The types of columns.
use Rattle.std.specs.Prelude.{ℕ, Bool, true, false, List, [], ◌∷◌}

-- The type of a column: its layout, at every depth. Struct fields are identified by position.
-- (Arrow columnar format: data types and their layouts.).
mutual
  pub data Shape : Type 0 where
    of_null : Shape
    of_boolean : Shape
    of_int8 : Shape
    of_int16 : Shape
    of_int32 : Shape
    of_int64 : Shape
    of_int128 : Shape
    of_uint8 : Shape
    of_uint16 : Shape
    of_uint32 : Shape
    of_uint64 : Shape
    of_uint128 : Shape
    of_large_binary : Shape
    of_binary_view : Shape
    of_utf8_view : Shape
    of_large_list : Shape → Shape
    of_fixed_size_list : Shape → ℕ → Shape
    of_struct : Shapes → Shape

  -- The types of struct fields.
  pub data Shapes : Type 0 where
    no_shapes : Shapes
    next_shape : Shape → Shapes → Shapes

-- A list of types as the types of struct fields.
abbrev pub shapes_of : List Shape → Shapes
shapes_of [] = no_shapes
shapes_of (s ∷ ss) = next_shape s (shapes_of ss)

-- The types of struct fields as a list.
abbrev pub shape_list : Shapes → List Shape
shape_list no_shapes = []
shape_list (next_shape s ss) = s ∷ shape_list ss

-- Whether the type is lists with 64-bit offsets (Arrow columnar format: variable-size list layout).
abbrev pub is_list_shape : Shape → Bool
is_list_shape (of_large_list s) = true
is_list_shape s = false

-- Whether the type is fixed-size lists (Arrow columnar format: fixed-size list layout).
abbrev pub is_block_shape : Shape → Bool
is_block_shape (of_fixed_size_list s size) = true
is_block_shape s = false

-- Whether the type is structs (Arrow columnar format: struct layout).
abbrev pub is_struct_shape : Shape → Bool
is_struct_shape (of_struct ss) = true
is_struct_shape s = false
