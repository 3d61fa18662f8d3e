-- What functions of this crate state of each other; no public contract has these words.
use Rattle.std.specs.Prelude.{◌≡◌, ⊤, Bool, true, false, List, [], ◌∷◌, if◌then◌else◌, Result, Ok}
use Rattle.std.specs.Prelude.{Err, ℕ, slice_index_or, IsTrue}
use Rattle.std.specs.List.{list_all}
use Rattle.sel_arrow.specs.Rows.{rows, type_of}
use Rattle.sel_arrow.specs.Shape.{Shape, of_binary_view, of_utf8_view, of_large_list}
use Rattle.sel_arrow.specs.Shape.{of_fixed_size_list, of_struct}
use Rattle.sel_arrow.specs.Value.{Value, Null}
use Rattle.sel_arrow.specs.declared.array_ref.ArrayRef.{ArrayRef}
use Rattle.sel_arrow.specs.declared.column.Column.{Column}
use Rattle.sel_text.specs.declared.build.NullSlots.{NullSlots}
use Rattle.sel_text.specs.declared.text_error.Fault.{Fault}
use Rattle.sel_text.specs.declared.text_error.Fault.TheVariants.{Limit, OutOfMemory}
use Rattle.sel_text.specs.Limits.{exceeds_limit}
use Rattle.sel_text.specs.Texts.{text_of, value_text}
use Rattle.sel_text.specs.Fits.{fits}

-- The error is `Limit`, and a limit is exceeded, or it is `OutOfMemory`.
abbrev pub ReportsLimit : Bool → Fault → Type 0
ReportsLimit is_passed Limit = is_passed ≡ true
ReportsLimit is_passed OutOfMemory = ⊤
ReportsLimit is_passed fault = ⊥

-- The result is a column of the type with these rows, which exceed no limit, `Limit` if the rows
-- exceed one, or `OutOfMemory`.
abbrev pub MakesColumn : NullSlots → Shape → List Value → Result ArrayRef Fault → Type 0
MakesColumn beneath shape values (Ok array) =
    (type_of array.column ≡ shape) × (rows array.column ≡ values)
    × (exceeds_limit beneath shape values ≡ false)
MakesColumn beneath shape values (Err fault) =
    ReportsLimit (exceeds_limit beneath shape values) fault

-- The rows are these values, except in null slots: each non-null row equals the value at its
-- position (Arrow columnar format: validity bitmaps).
abbrev pub ShowsRows : List Value → List Value → Type 0
ShowsRows [] [] = ⊤
ShowsRows (Null ∷ rows) (value ∷ values) = ShowsRows rows values
ShowsRows (row ∷ rows) (value ∷ values) = (row ≡ value) × ShowsRows rows values
ShowsRows rows values = ⊥

-- Whether the type is one of views (Arrow columnar format: variable-size binary view layout).
abbrev pub is_view_shape : Shape → Bool
is_view_shape of_binary_view = true
is_view_shape of_utf8_view = true
is_view_shape shape = false

-- The fault is an exceeded limit or out of memory.
abbrev pub IsLimitOrMemoryFault : Fault → Type 0
IsLimitOrMemoryFault Limit = ⊤
IsLimitOrMemoryFault OutOfMemory = ⊤
IsLimitOrMemoryFault fault = ⊥

-- The fault is out of memory.
abbrev pub IsMemoryFault : Fault → Type 0
IsMemoryFault OutOfMemory = ⊤
IsMemoryFault fault = ⊥

-- The row text of one row of a field.
abbrev pub field_text : ℕ → Column → List ℕ
field_text place field = value_text (type_of field) (slice_index_or (rows field) place Null)

-- Whether a type has no child.
abbrev pub is_plain : Shape → Bool
is_plain (of_large_list _) = false
is_plain (of_fixed_size_list _ _) = false
is_plain (of_struct _) = false
is_plain _ = true

-- The bytes are the text of some rows that fit the type.
abbrev pub HasRows : Shape → List ℕ → Type 0
HasRows shape bytes =
    (values : List Value) × IsTrue (list_all (fits shape) values) × (bytes ≡ text_of shape values)
