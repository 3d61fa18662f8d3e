-- A row of a column as a cell, which refers to the column's data.
use Rattle.std.specs.Prelude.{◌≡◌, ℕ, ℤ, ◌≤◌, ◌<◌, Bool, true, false, ⊤, All, map, pos, length}
use Rattle.std.specs.Prelude.{IsTrue}
use Rattle.std.specs.List.{slice_range}
use Rattle.std.specs.Str.{is_utf8}
use denote.Param.Weighed.{most}
use Rattle.sel_arrow.specs.Nested.{list_of, struct_at}
use Rattle.sel_arrow.specs.Rows.{rows, type_of, IsWellFormed}
use Rattle.sel_arrow.specs.Shape.{Shape, shapes_of}
use Rattle.sel_arrow.specs.Value.{Value, Null, Truth, Number, Bytes}
use Rattle.sel_arrow.specs.Views.{view_bytes, is_placed}
use Rattle.sel_arrow.specs.declared.column.Column.{Column, size-Column}
use Rattle.sel_text.specs.Texts.{is_text_shape, item_shape, part_shapes}
use Rattle.sel_text.specs.declared.cell.Cell.{Cell}
use Rattle.sel_text.specs.declared.cell.Cell.TheVariants.{Null as NullCell, Truth as TruthCell}
use Rattle.sel_text.specs.declared.cell.Cell.TheVariants.{Whole as WholeCell, Bytes as BytesCell}
use Rattle.sel_text.specs.declared.cell.Cell.TheVariants.{View as ViewCell, Text as TextCell}
use Rattle.sel_text.specs.declared.cell.Cell.TheVariants.{Items as ItemsCell, Parts as PartsCell}
use Rattle.sel_text.specs.declared.cell.Whole.{Whole}
use Rattle.sel_text.specs.declared.cell.Whole.TheVariants.{Signed, Unsigned}

-- The integer that is stored as a signed or an unsigned one.
abbrev pub whole_number : Whole → ℤ
whole_number (Signed z) = z
whole_number (Unsigned n) = pos n

-- The row that a cell represents.
abbrev pub cell_value : Cell → Value
cell_value NullCell = Null
cell_value (TruthCell truth) = Truth truth
cell_value (WholeCell whole) = Number (whole_number whole)
cell_value (BytesCell bytes) = Bytes bytes.now
cell_value (ViewCell buffers view) = Bytes (view_bytes buffers.now view)
cell_value (TextCell buffers view) = Bytes (view_bytes buffers.now view)
cell_value (ItemsCell child start end) = list_of (slice_range (rows child.now) start end)
cell_value (PartsCell fields place) = struct_at (map rows fields.now) place

-- The column is well-formed and has a row at a position.
abbrev pub HasCellRow : ℕ → Column → Type 0
HasCellRow place column = IsWellFormed column × (place < length (rows column))

-- The data that a cell refers to are in bounds: a view is within its buffers, and UTF-8 if it is a
-- string; entries are within a well-formed child; each field is well-formed and has the row.
abbrev pub CellFits : Cell → Type 0
CellFits (ViewCell buffers view) = IsTrue (is_placed buffers.now view)
CellFits (TextCell buffers view) =
    IsTrue (is_placed buffers.now view) × IsTrue (is_utf8 (view_bytes buffers.now view))
CellFits (ItemsCell child start end) =
    IsWellFormed child.now × (start ≤ end) × (end ≤ length (rows child.now))
CellFits (PartsCell fields place) = All (HasCellRow place) fields.now
CellFits cell = ⊤

-- Whether a cell is neither a list nor a struct.
abbrev pub is_flat : Cell → Bool
is_flat (ItemsCell child start end) = false
is_flat (PartsCell fields place) = false
is_flat cell = true

-- The cell can be a row of a column of this type: it is a string only if the type is a string type,
-- binary only if it is not, and its children have the child types.
abbrev pub CellKind : Shape → Cell → Type 0
CellKind shape (BytesCell bytes) = is_text_shape shape ≡ false
CellKind shape (ViewCell buffers view) = is_text_shape shape ≡ false
CellKind shape (TextCell buffers view) = is_text_shape shape ≡ true
CellKind shape (ItemsCell child start end) = item_shape shape ≡ type_of child.now
CellKind shape (PartsCell fields place) = part_shapes shape ≡ shapes_of (map type_of fields.now)
CellKind shape cell = ⊤

-- The children that a cell refers to are smaller than the column.
abbrev pub IsBelow : Column → Cell → Type 0
IsBelow column (ItemsCell child start end) = size-Column child.now < size-Column column
IsBelow column (PartsCell fields place) = most size-Column fields.now < size-Column column
IsBelow column cell = ⊤
