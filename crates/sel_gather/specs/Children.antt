-- The children of columns, and the values of nested rows.
use Rattle.std.specs.Prelude.{ℕ, List, [], ◌∷◌, Bool, true, false, replicate, slice_index_or}
use Rattle.std.specs.List.{flat_map}
use Rattle.sel_arrow.specs.Shape.{Shape, of_large_list, of_fixed_size_list, of_struct}
use Rattle.sel_arrow.specs.Value.{Value, Null, Items, Tuple, listed}
use Rattle.sel_arrow.specs.declared.column.Column.{Column, Row_of-Column, end_of-Column}
use Rattle.sel_arrow.specs.declared.column.Column.{more_of-Column}
use Rattle.sel_arrow.specs.declared.column.Column.TheVariants.{LargeList', FixedSizeList', Struct'}

-- Whether the type is lists with offsets or fixed-size lists (Arrow columnar format: list layouts).
abbrev pub is_listing : Shape → Bool
is_listing (of_large_list s) = true
is_listing (of_fixed_size_list s width) = true
is_listing s = false

-- Whether columns of the type have children: lists, fixed-size lists and structs (Arrow columnar
-- format: nested layouts).
abbrev pub has_children : Shape → Bool
has_children (of_large_list s) = true
has_children (of_fixed_size_list s width) = true
has_children (of_struct ss) = true
has_children s = false

-- The child of a list column; any other column itself (Arrow columnar format: list layouts).
abbrev pub child : Column → Column
child (LargeList' offsets p values validity) = values
child (FixedSizeList' size len p values validity) = values
child column = column

-- Columns as a list.
abbrev pub columns_in : {n : _} → Row_of-Column n → List Column
columns_in end_of-Column = []
columns_in (more_of-Column column columns) = column ∷ columns_in columns

-- The fields of a struct column, in order; none for any other column (Arrow columnar format: struct
-- layout).
abbrev pub fields_of : Column → List Column
fields_of (Struct' len n fields validity) = columns_in fields
fields_of column = []

-- Field j of a column; the column itself if there is no such field.
abbrev pub field : ℕ → Column → Column
field j column = slice_index_or (fields_of column) j column

-- The values in a list; `width` nulls for any other value, such as null (Arrow columnar format: a
-- null row of a fixed-size list has `width` child rows).
abbrev pub items_in : ℕ → Value → List Value
items_in width (Items values) = listed values
items_in width value = replicate width Null

-- The values in all lists, concatenated.
abbrev pub joined_items : ℕ → List Value → List Value
joined_items width rows = flat_map (items_in width) rows

-- Value j of a struct value; null if there is none (Arrow columnar format: struct layout).
abbrev pub part_at : ℕ → Value → Value
part_at j (Tuple values) = slice_index_or (listed values) j Null
part_at j value = Null
