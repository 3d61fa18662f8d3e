-- The types of columns with children.
use Rattle.std.proofs.Common.{◌≡◌, ℕ, ◌+◌, ◌<◌, ◌&&◌, List, [], ◌∷◌, ◌++◌, length, take, map, Option, Vec, Global, refl, sym, ap, ◌∙◌, arith, get_or}
use Rattle.std.specs.Prelude.{◌↔◌}
use Rattle.std.specs.List.{flat_map, list_all}
use Rattle.std.proofs.lemmas.List.{length-map, get_or-map, map_more, take_all}
use mathlib.Core.Former.{Count}
use Rattle.sel_bits.specs.Bits.{Bits}
use Rattle.sel_arrow.specs.DataType.{shape_of, shapes_of_each, widths_fit, all_widths_fit}
use Rattle.sel_arrow.specs.Rows.{type_of, types_of_each, buffers_held, buffers_of_each}
use Rattle.sel_arrow.specs.Shape.{Shape, next_shape, of_struct, shapes_of, shape_list}
use Rattle.sel_arrow.specs.declared.column.Column.{Column, Struct as StructColumn, Row_of-Column, end_of-Column, more_of-Column, items-the_row-Column, items_hidden-the_row-Column-0}
use Rattle.sel_arrow.specs.declared.column.Column.TheVariants.{Struct' as StructColumn'}
use Rattle.sel_arrow.specs.declared.datatype.ArrowDataType.{ArrowDataType, Struct, Row_of-ArrowDataType, end_of-ArrowDataType, more_of-ArrowDataType, items-the_row-ArrowDataType, items_hidden-the_row-ArrowDataType-0}
use Rattle.sel_arrow.specs.declared.datatype.ArrowDataType.TheVariants.{Struct'}

-- ---- the definitions in terms of the list of fields

abbrev pub columns_in : Column → (n : Count) × Row_of-Column n
columns_in (StructColumn' len n fields validity) = (_, fields)
columns_in _ = (_, end_of-Column)

each_type : (n : _) (row : Row_of-Column n) → types_of_each row ≡ shapes_of (map type_of (items-the_row-Column n row))
each_type n end_of-Column = refl
each_type n (more_of-Column column columns) = ap (next_shape (type_of column)) (each_type _ columns)

pub type_of-Struct : (len : ℕ) (fields : Vec Column Global) (validity : Option Bits) → type_of (StructColumn len fields validity) ≡ of_struct (shapes_of (map type_of fields.items))
type_of-Struct len fields validity =
    let row = columns_in (StructColumn len fields validity) in
    ap of_struct (each_type row.0 row.1 ∙ ap (λ l. shapes_of (map type_of l)) (items_hidden-the_row-Column-0 fields))

each_held : (n : _) (row : Row_of-Column n) → buffers_of_each row ≡ flat_map (λ held. held) (map buffers_held (items-the_row-Column n row))
each_held n end_of-Column = refl
each_held n (more_of-Column column columns) = ap (λ l. buffers_held column ++ l) (each_held _ columns)

pub buffers_held-Struct : (len : ℕ) (fields : Vec Column Global) (validity : Option Bits) → buffers_held (StructColumn len fields validity) ≡ flat_map (λ held. held) (map buffers_held fields.items)
buffers_held-Struct len fields validity =
    let row = columns_in (StructColumn len fields validity) in
    each_held row.0 row.1 ∙ ap (λ l. flat_map (λ held. held) (map buffers_held l)) (items_hidden-the_row-Column-0 fields)

abbrev pub dtypes_in : ArrowDataType → (n : Count) × Row_of-ArrowDataType n
dtypes_in (Struct' n fields) = (_, fields)
dtypes_in _ = (_, end_of-ArrowDataType)

each_shape : (n : _) (row : Row_of-ArrowDataType n) → shapes_of_each row ≡ shapes_of (map shape_of (items-the_row-ArrowDataType n row))
each_shape n end_of-ArrowDataType = refl
each_shape n (more_of-ArrowDataType dtype dtypes) = ap (next_shape (shape_of dtype)) (each_shape _ dtypes)

pub shape_of-Struct : (fields : Vec ArrowDataType Global) → shape_of (Struct fields) ≡ of_struct (shapes_of (map shape_of fields.items))
shape_of-Struct fields =
    let row = dtypes_in (Struct fields) in
    ap of_struct (each_shape row.0 row.1 ∙ ap (λ l. shapes_of (map shape_of l)) (items_hidden-the_row-ArrowDataType-0 fields))

pub struct_type : (column : Column) (len : ℕ) (fields : Vec Column Global) (validity : Option Bits) → column ≡ StructColumn len fields validity → type_of column ≡ of_struct (shapes_of (map type_of fields.items))
struct_type column len fields validity is = ap type_of is ∙ type_of-Struct len fields validity

pub struct_shape : (dtype : ArrowDataType) (fields : Vec ArrowDataType Global) → dtype ≡ Struct fields → shape_of dtype ≡ of_struct (shapes_of (map shape_of fields.items))
struct_shape dtype fields is = ap shape_of is ∙ shape_of-Struct fields

each_width : (n : _) (row : Row_of-ArrowDataType n) → all_widths_fit row ≡ list_all widths_fit (items-the_row-ArrowDataType n row)
each_width n end_of-ArrowDataType = refl
each_width n (more_of-ArrowDataType dtype dtypes) = ap (λ b. widths_fit dtype && b) (each_width _ dtypes)

pub widths_fit_struct : (fields : Vec ArrowDataType Global) → widths_fit (Struct fields) ≡ list_all widths_fit fields.items
widths_fit_struct fields =
    let row = dtypes_in (Struct fields) in
    each_width row.0 row.1 ∙ ap (list_all widths_fit) (items_hidden-the_row-ArrowDataType-0 fields)

-- ---- equality of struct types

list_of_shapes : (ss : List Shape) → shape_list (shapes_of ss) ≡ ss
list_of_shapes [] = refl
list_of_shapes (s ∷ ss) = ap (λ l. s ∷ l) (list_of_shapes ss)

abbrev fields_of : Shape → List Shape
fields_of (of_struct ss) = shape_list ss
fields_of s = []

one_struct : (ss ts : List Shape) → of_struct (shapes_of ss) ≡ of_struct (shapes_of ts) → ss ≡ ts
one_struct ss ts e = sym (list_of_shapes ss) ∙ ap fields_of e ∙ list_of_shapes ts

-- A condition for equal field types is a condition for equal struct types.
pub by_fields : {P : Type 0} (s t : Shape) (ss ts : List Shape) → s ≡ of_struct (shapes_of ss) → t ≡ of_struct (shapes_of ts) → (P ↔ (ss ≡ ts)) → (P ↔ (s ≡ t))
by_fields s t ss ts is of same = grind (arith, one_struct)

-- ---- two lists whose elements have the same images

module _ {A B C : Type 0} (f : A → C) (g : B → C) (xs : List A) (ys : List B) where
  pub same_lengths : map f xs ≡ map g ys → length xs ≡ length ys
  same_lengths e = sym (length-map xs f) ∙ ap length e ∙ length-map ys g

  pub same_at : (i : ℕ) (x : A) (y : B) → i < length xs → i < length ys → map f xs ≡ map g ys → f (get_or xs i x) ≡ g (get_or ys i y)
  same_at i x y in_xs in_ys e =
      sym (get_or-map f xs i x (f x) in_xs) ∙ ap (λ l. get_or l i (f x)) e ∙ get_or-map g ys i y (f x) in_ys

  pub same_more : (i : ℕ) (x : A) (y : B) → i < length xs → i < length ys → map f (take i xs) ≡ map g (take i ys) →
      f (get_or xs i x) ≡ g (get_or ys i y) → map f (take (i + 1) xs) ≡ map g (take (i + 1) ys)
  same_more i x y in_xs in_ys before here = map_more f xs i x in_xs ∙ cc (before, here) ∙ sym (map_more g ys i y in_ys)

  pub same_all : (i : ℕ) → i ≡ length xs → i ≡ length ys → map f (take i xs) ≡ map g (take i ys) → map f xs ≡ map g ys
  same_all i to_x to_y before = grind (arith, take_all)

pub ruleset both_lists = (same_lengths, same_at, same_more, same_all)

pub ruleset struct_types = (struct_type, struct_shape, by_fields, shape_of-Struct, type_of-Struct)
