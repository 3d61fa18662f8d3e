-- The text of a type.
use Rattle.std.specs.Prelude.{ℕ, List, [], ◌∷◌, ◌++◌, codes}
use Rattle.std.specs.Fmt.{decimal}
use Rattle.std.specs.List.{join_with_byte}
use Rattle.sel_arrow.specs.Shape.{Shape, Shapes, no_shapes, next_shape, of_null, of_boolean}
use Rattle.sel_arrow.specs.Shape.{of_int8, of_int16, of_int32, of_int64, of_int128, of_uint8}
use Rattle.sel_arrow.specs.Shape.{of_uint16, of_uint32, of_uint64, of_uint128, of_large_binary}
use Rattle.sel_arrow.specs.Shape.{of_binary_view, of_utf8_view, of_large_list, of_fixed_size_list}
use Rattle.sel_arrow.specs.Shape.{of_struct}

-- Parts in angle brackets, separated by commas, as in `<i8,bool>`.
abbrev pub angled : List (List ℕ) → List ℕ
angled texts = 60 ∷ join_with_byte 44 texts ++ 62 ∷ []

abbrev mutual
  -- The text of a type, as in `struct<list<i8>,fixed<2,utf8>>`.
  pub type_text : Shape → List ℕ
  type_text of_null = codes "null"
  type_text of_boolean = codes "bool"
  type_text of_int8 = codes "i8"
  type_text of_int16 = codes "i16"
  type_text of_int32 = codes "i32"
  type_text of_int64 = codes "i64"
  type_text of_int128 = codes "i128"
  type_text of_uint8 = codes "u8"
  type_text of_uint16 = codes "u16"
  type_text of_uint32 = codes "u32"
  type_text of_uint64 = codes "u64"
  type_text of_uint128 = codes "u128"
  type_text of_large_binary = codes "binary"
  type_text of_binary_view = codes "binview"
  type_text of_utf8_view = codes "utf8"
  type_text (of_large_list shape) = codes "list" ++ angled (type_text shape ∷ [])
  type_text (of_fixed_size_list shape size) =
      codes "fixed" ++ angled (decimal size ∷ type_text shape ∷ [])
  type_text (of_struct shapes) = codes "struct" ++ angled (type_texts shapes)

  -- The text of each type.
  pub type_texts : Shapes → List (List ℕ)
  type_texts no_shapes = []
  type_texts (next_shape shape shapes) = type_text shape ∷ type_texts shapes
