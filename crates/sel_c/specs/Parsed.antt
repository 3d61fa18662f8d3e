-- Types and row text that are parsed.
use Rattle.std.specs.Prelude.{◌≡◌, ◌≤◌, ◌⊎◌, ℕ, Bool, true, false, ◌||◌, List, [], ◌∷◌, length}
use Rattle.std.specs.Prelude.{Some, nat_lt, IsTrue}
use Rattle.std.specs.List.{list_all}
use Rattle.std.specs.Str.{is_utf8}
use Rattle.sel_arrow.specs.Rows.{rows, type_of}
use Rattle.sel_arrow.specs.Shape.{Shape}
use Rattle.sel_arrow.specs.Value.{Value}
use Rattle.sel_ffi.specs.Held.{Held}
use Rattle.sel_ffi.specs.Status.{ok, out_of_memory, type_syntax, row_syntax, row_type_mismatch}
use Rattle.sel_ffi.specs.Status.{text_limit, IsOneOf, Makes}
use Rattle.sel_text.specs.Fits.{fits}
use Rattle.sel_text.specs.Limits.{exceeds_limit}
use Rattle.sel_text.specs.Notation.{is_row_notation, is_type_notation, IsFirstError}
use Rattle.sel_text.specs.Spelling.{spelled}
use Rattle.sel_text.specs.TextErrors.{HasFittingRows}
use Rattle.sel_text.specs.Texts.{text_of}
use Rattle.sel_text.specs.Types.{type_text}
use Rattle.sel_arrow.specs.Depth.{depth}
use Rattle.sel_text.specs.Written.{widths_written}
use Rattle.sel_text.specs.declared.build.NullSlots.TheVariants.{Zeros}

-- The bytes are UTF-8, and their canonical spelling is the text of a type.
abbrev pub IsTypeText : Shape → List ℕ → Type 0
IsTypeText shape bytes =
    IsTrue (widths_written shape) × IsTrue (is_utf8 bytes)
    × (spelled bytes ≡ Some (type_text shape))

-- The bytes are UTF-8, and their canonical spelling is the row text of values that fit a type.
abbrev pub IsRowsText : Shape → List Value → List ℕ → Type 0
IsRowsText shape values bytes =
    IsTrue (list_all (fits shape) values) × IsTrue (is_utf8 bytes)
    × (spelled bytes ≡ Some (text_of shape values))

-- The type is nested more than 64 levels deep, or a column of the rows exceeds a size limit.
abbrev pub exceeds_parse_limit : Shape → List Value → Bool
exceeds_parse_limit shape values = nat_lt 64 (depth shape) || exceeds_limit Zeros shape values

-- Whatever its rows are, a column of the type exceeds a limit.
abbrev pub ExceedsAlways : Shape → Type 0
ExceedsAlways shape = (values : List Value) → IsTrue (exceeds_parse_limit shape values)

-- A column is parsed from a type and row text: its type and rows are those of the texts. A status
-- is returned only for its error, and with a position only if the text is wrong there.
pub record Parses (code : ℕ) (name row_text : List ℕ) (at_before at_after : ℕ) (before after : Held)
    : Type 0 where
  pub dtype : Makes code before after
      (λ made. spelled name ≡ Some (type_text (type_of made.column)))
  pub rows : Makes code before after
      (λ made. spelled row_text ≡ Some (text_of (type_of made.column) (rows made.column)))
  pub named : code ≡ type_syntax → (shape : Shape) → IsTypeText shape name → ⊥
  pub typed : IsOneOf code (row_syntax ∷ row_type_mismatch ∷ []) →
      (shape : Shape) × (spelled name ≡ Some (type_text shape))
  pub within : code ≡ ok → (shape : Shape) (values : List Value) →
      IsTypeText shape name → IsRowsText shape values row_text →
      exceeds_parse_limit shape values ≡ false
  pub accepted : (shape : Shape) (values : List Value) →
      IsTypeText shape name → IsRowsText shape values row_text →
      IsOneOf code (ok ∷ out_of_memory ∷ text_limit ∷ [])
  pub limit : code ≡ text_limit → (shape : Shape) (values : List Value) →
      IsTypeText shape name → IsRowsText shape values row_text →
      IsTrue (exceeds_parse_limit shape values)
  pub type_error : code ≡ type_syntax → IsFirstError is_type_notation name at_after
  pub row_error : code ≡ row_syntax → IsFirstError is_row_notation row_text at_after
  pub misfit : code ≡ row_type_mismatch → is_row_notation row_text ≡ true
  pub type_limit : (shape : Shape) → IsTypeText shape name → ExceedsAlways shape →
      IsOneOf code (out_of_memory ∷ text_limit ∷ [])
  pub type_read : code ≡ text_limit → is_type_notation name ≡ true
  pub fit : code ≡ text_limit → (shape : Shape) → IsTypeText shape name →
      ExceedsAlways shape ⊎ HasFittingRows shape row_text
  pub type_place : code ≡ type_syntax → at_after ≤ length name
  pub place : IsOneOf code (row_syntax ∷ row_type_mismatch ∷ []) →
      at_after ≤ length row_text
  pub no_place : IsOneOf code (ok ∷ out_of_memory ∷ text_limit ∷ []) →
      at_after ≡ at_before
  pub status : IsOneOf code
      (ok ∷ out_of_memory ∷ type_syntax ∷ row_syntax ∷ row_type_mismatch ∷ text_limit ∷ [])
