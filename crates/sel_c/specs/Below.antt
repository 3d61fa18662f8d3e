-- Children and fields of a handle's column.
use Rattle.std.specs.Prelude.{◌≡◌, ◌<◌, ℕ, List, [], ◌∷◌, length, None, Some, IsTrue}
use Rattle.sel_arrow.specs.Rows.{rows, type_of}
use Rattle.sel_arrow.specs.Shape.{Shape, of_null, is_block_shape, is_struct_shape}
use Rattle.sel_arrow.specs.Value.{Value}
use Rattle.sel_arrow.specs.declared.column.Column.{Column}
use Rattle.sel_c.specs.Returns.{ReturnsColumn, ReturnsValue}
use Rattle.sel_c.specs.Types.{width_of}
use Rattle.sel_ffi.specs.Held.{Held}
use Rattle.sel_ffi.specs.Status.{ok, no_column, unsupported_type, index_out_of_bounds}
use Rattle.sel_ffi.specs.Status.{held_type, HasColumn}
use Rattle.sel_gather.specs.Children.{child, field, fields_of, is_listing}

-- The rows, and the type, of the child of a list column (Arrow columnar format: list layouts).
abbrev pub held_child_rows : Held → List Value
held_child_rows None = []
held_child_rows (Some column) = rows (child column.column)

abbrev pub held_child_type : Held → Shape
held_child_type None = of_null
held_child_type (Some column) = type_of (child column.column)

-- The fields of a struct column, and the rows and the type of field j (Arrow columnar format:
-- struct layout).
abbrev pub held_fields : Held → List Column
held_fields None = []
held_fields (Some column) = fields_of column.column

abbrev pub held_field_rows : Held → ℕ → List Value
held_field_rows None j = []
held_field_rows (Some column) j = rows (field j column.column)

abbrev pub held_field_type : Held → ℕ → Shape
held_field_type None j = of_null
held_field_type (Some column) j = type_of (field j column.column)

-- The child of a list column is made.
abbrev pub ReturnsChild : ℕ → Held → Held → Held → Type 0
ReturnsChild code of before after =
    ReturnsColumn code before after (held_child_rows of) (held_child_type of)
    ((no_column, HasColumn of) ∷ (unsupported_type, IsTrue (is_listing (held_type of))) ∷ [])
    (code ≡ ok)

-- Field j of a struct column is made.
abbrev pub ReturnsField : ℕ → Held → ℕ → Held → Held → Type 0
ReturnsField code of j before after =
    ReturnsColumn code before after (held_field_rows of j) (held_field_type of j)
    ((no_column, HasColumn of) ∷ (index_out_of_bounds, j < length (held_fields of)) ∷ [])
    (code ≡ ok)

-- The list size of a fixed-size list column is written.
abbrev pub ReturnsListSize : ℕ → Held → ℕ → ℕ → Type 0
ReturnsListSize code of before after =
    ReturnsValue code before after (width_of (held_type of))
    ((no_column, HasColumn of) ∷ (unsupported_type, IsTrue (is_block_shape (held_type of))) ∷ [])

-- The number of fields of a struct column is written.
abbrev pub ReturnsFieldCount : ℕ → Held → ℕ → ℕ → Type 0
ReturnsFieldCount code of before after =
    ReturnsValue code before after (length (held_fields of))
    ((no_column, HasColumn of) ∷ (unsupported_type, IsTrue (is_struct_shape (held_type of))) ∷ [])
