-- Row text determines the rows, the text of a type determines the type, and both are read as they
-- are printed.
use Rattle.std.specs.Prelude.{◌≡◌, ℕ, List, Some, IsTrue}
use Rattle.std.specs.List.{list_all}
use Rattle.sel_arrow.specs.Rows.{type_of, IsWellFormed}
use Rattle.sel_arrow.specs.Shape.{Shape}
use Rattle.sel_arrow.specs.Value.{Value}
use Rattle.sel_arrow.specs.declared.column.Column.{Column}
use Rattle.sel_text.specs.Fits.{fits}
use Rattle.sel_text.specs.Notation.{is_row_notation, is_type_notation}
use Rattle.sel_text.specs.Spelling.{spelled}
use Rattle.sel_text.specs.Texts.{text_of}
use Rattle.sel_text.specs.Types.{type_text}
use Rattle.sel_text.specs.Written.{widths_written}

-- Lists of values that fit a type are equal if their row texts are equal.
abbrev pub TextDeterminesRows : Type 0
TextDeterminesRows =
    (shape : Shape) (rows others : List Value) → IsTrue (list_all (fits shape) rows) →
    IsTrue (list_all (fits shape) others) →
    text_of shape rows ≡ text_of shape others → rows ≡ others

-- Types whose list sizes are unsigned 64-bit integers are equal if their texts are equal.
abbrev pub TextDeterminesType : Type 0
TextDeterminesType =
    (shape other : Shape) → IsTrue (widths_written shape) → IsTrue (widths_written other) →
    type_text shape ≡ type_text other → shape ≡ other

-- The list sizes in the type of a well-formed column are unsigned 64-bit integers.
abbrev pub ColumnTypesAreWritten : Type 0
ColumnTypesAreWritten =
    (column : Column) → IsWellFormed column → IsTrue (widths_written (type_of column))

-- The text of a type whose list sizes are such integers is its own canonical spelling.
abbrev pub TypeTextIsSpelled : Type 0
TypeTextIsSpelled =
    (shape : Shape) → IsTrue (widths_written shape) →
    spelled (type_text shape) ≡ Some (type_text shape)

-- The text of rows that fit their type is its own canonical spelling.
abbrev pub RowTextIsSpelled : Type 0
RowTextIsSpelled =
    (shape : Shape) (rows : List Value) → IsTrue (list_all (fits shape) rows) →
    spelled (text_of shape rows) ≡ Some (text_of shape rows)

-- A text whose canonical spelling is that of a type whose list sizes are such integers is in the
-- notation of types.
abbrev pub TypeTextIsNotation : Type 0
TypeTextIsNotation =
    (text : List ℕ) (shape : Shape) → IsTrue (widths_written shape) →
    spelled text ≡ Some (type_text shape) → IsTrue (is_type_notation text)

-- A text whose canonical spelling is that of rows that fit a type is in the notation of rows.
abbrev pub RowTextIsNotation : Type 0
RowTextIsNotation =
    (text : List ℕ) (shape : Shape) (rows : List Value) → IsTrue (list_all (fits shape) rows) →
    spelled text ≡ Some (text_of shape rows) → IsTrue (is_row_notation text)
