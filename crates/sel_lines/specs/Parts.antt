-- Definitions for internal functions of the program; the contract of `run` does not depend on them.
use Rattle.std.specs.Prelude.{◌≡◌, ◌≢◌, ℕ, All, List, length, slice_index, Option}
use Rattle.std.specs.Borrow.{Bor}
use Rattle.sel_arrow.specs.Columns.{primitive_rows}
use Rattle.sel_arrow.specs.Rows.{type_of}
use Rattle.sel_arrow.specs.Shape.{of_int64}
use Rattle.sel_arrow.specs.Value.{Value, Bytes}
use Rattle.sel_arrow.specs.declared.array_ref.ArrayRef.{ArrayRef}
use Rattle.sel_lines.specs.declared.flatten.Part.{Part}
use Rattle.sel_lines.specs.Rows.{shown_row}

-- The word has no plus sign, no `-0` and no leading zero, which are never printed.
abbrev pub HasOneSpelling : List ℕ → Type 0
HasOneSpelling word =
    (slice_index word 0 ≢ 43) × (slice_index word 0 ≡ 45 → slice_index word 1 ≢ 48)
    × (slice_index word 0 ≡ 48 → length word ≡ 1)

-- An optional string as a row.
abbrev pub text_row : Option (Bor (List ℕ)) → Value
text_row row = shown_row (λ text. Bytes text.now) row

-- A parsed column and its width.
abbrev pub read_part : Part → ℕ × List Value
read_part part = (part.width, primitive_rows part.column)

-- Each column is one of signed 64-bit integers.
abbrev pub AreNumbers : List ArrayRef → Type 0
AreNumbers columns = All (λ c. type_of c.column ≡ of_int64) columns
