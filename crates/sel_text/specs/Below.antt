-- The child rows of lists and structs when a column is built from rows.
use Rattle.std.specs.Prelude.{◌≡◌, ℕ, ◌+◌, List, [], ◌∷◌, ◌++◌, map, length}
use Rattle.std.specs.List.{range_with_len}
use Rattle.sel_arrow.specs.Rows.{rows, type_of}
use Rattle.sel_arrow.specs.Shape.{Shape}
use Rattle.sel_arrow.specs.Value.{Value}
use Rattle.sel_arrow.specs.declared.array_ref.ArrayRef.{ArrayRef}
use Rattle.sel_text.specs.Limits.{part_in}

-- The end offset of each row's entries, if those of the first row begin at a position (Arrow
-- columnar format: variable-size list layout).
abbrev pub ends_below : {A B : Type 0} → (A → List B) → ℕ → List A → List ℕ
ends_below below place [] = []
ends_below below place (row ∷ rows) =
    (place + length (below row)) ∷ ends_below below (place + length (below row)) rows

-- The offsets: 0 and the end offset of each row's entries (Arrow columnar format: variable-size
-- list layout).
abbrev pub offsets_below : {A B : Type 0} → (A → List B) → List A → List ℕ
offsets_below below rows = 0 ∷ ends_below below 0 rows

-- The values of each of the first fields of struct rows, field by field (Arrow columnar format:
-- struct layout).
abbrev pub parts_below : ℕ → List Value → List (List Value)
parts_below count rows = map (λ place. map (part_in place) rows) (range_with_len 0 count)

-- Columns of these types are appended to others, one for each field, with the values of the fields.
pub record HasParts (new old : List ArrayRef) (shapes : List Shape)
    (values : List Value) : Type 0 where
  pub types : map (λ field. type_of field.column) new
      ≡ map (λ field. type_of field.column) old ++ shapes
  pub parts : map (λ field. rows field.column) new
      ≡ map (λ field. rows field.column) old ++ parts_below (length shapes) values
