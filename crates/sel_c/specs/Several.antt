-- Row references and types of several columns, and what the calls on several columns guarantee.
use Rattle.std.specs.Prelude.{◌≡◌, ◌<◌, ◌≤◌, ℕ, ◌+◌, Bool, false, All, List, [], ◌∷◌, ◌++◌, length}
use Rattle.std.specs.Prelude.{Option, Some, None, IsTrue, if◌then◌else◌}
use Rattle.sel_bits.specs.Bits.{Bits}
use Rattle.sel_bits.specs.Limits.{max_rows}
use Rattle.sel_bits.specs.declared.faults.Malformed.TheVariants.{TooManyRows, ValidityLength}
use Rattle.sel_bits.specs.Validity.{valid_at}
use Rattle.sel_arrow.specs.Shape.{Shape, of_null}
use Rattle.sel_arrow.specs.Value.{Value, Null}
use Rattle.sel_arrow.specs.declared.column.Column.{Column}
use Rattle.sel_c.specs.Returns.{IsOkOrLimit, ReturnsColumn}
use Rattle.sel_c.specs.declared.calls.several.PickWords.{PickWords}
use Rattle.sel_ffi.specs.Held.{Held}
use Rattle.sel_ffi.specs.Inputs.{lacks_bits, validity_in}
use Rattle.sel_ffi.specs.Status.{type_mismatch, length_mismatch, index_out_of_bounds, rule_status}
use Rattle.sel_gather.specs.Need.{exceeded_taken}
use Rattle.sel_runs.specs.Picks.{pick, PickFits}
use Rattle.sel_kernels.specs.Flatten.{flatten, parts_fit, exceeded_flattened}

-- The first of several types; the null type if there is none.
abbrev pub first_shape : List Shape → Shape
first_shape [] = of_null
first_shape (type ∷ types) = type

-- All types are the same.
abbrev pub AreAlike : List Shape → Type 0
AreAlike types = All (λ type. type ≡ first_shape types) types

-- The row reference in the words, or none if it is not valid.
abbrev pub pick_in : PickWords → Bool → Option (ℕ × ℕ)
pick_in words valid = if valid then Some (words.source, words.row) else None

-- The row references in the words from position i on, with a validity (Arrow columnar format:
-- validity bitmaps).
abbrev pub picks_from : ℕ → Option Bits → List PickWords → List (Option (ℕ × ℕ))
picks_from i validity [] = []
picks_from i validity (words ∷ others) =
    pick_in words (valid_at validity i) ∷ picks_from (i + 1) validity others

-- The row references that callers pass: words, and the bytes of their validity.
abbrev pub picks_in : List PickWords → List ℕ → Bool → List (Option (ℕ × ℕ))
picks_in words bytes has = picks_from 0 (validity_in bytes has (length words)) words

-- The row-wise concatenation of columns with these rows and types. The types and lengths are
-- checked after the conditions.
abbrev pub FlattensColumns : ℕ → List (List Value) → List Shape → List Column → List ℕ → ℕ
    → List (ℕ × Type 0) → Held → Held → Type 0
FlattensColumns code sources types columns widths height conditions before after =
    ReturnsColumn code before after (flatten sources widths height) (first_shape types)
    (conditions ++ (type_mismatch, AreAlike types)
    ∷ (length_mismatch, (0 < length types) × IsTrue (parts_fit height sources widths)) ∷ [])
    (IsOkOrLimit code
    (exceeded_flattened height (first_shape types) columns (flatten sources widths height)))

-- The rows of columns at row references. That there are columns, their types and the bounds are
-- checked after the conditions.
abbrev pub CollectsRows : ℕ → List (List Value) → List Shape → List Column → List (Option (ℕ × ℕ))
    → List (ℕ × Type 0) → Held → Held → Type 0
CollectsRows code sources types columns picks conditions before after =
    ReturnsColumn code before after (pick Null sources picks) (first_shape types)
    (conditions ++ (length_mismatch, 0 < length types) ∷ (type_mismatch, AreAlike types)
    ∷ (index_out_of_bounds, All (PickFits sources) picks) ∷ [])
    (IsOkOrLimit code (exceeded_taken (first_shape types) columns (pick Null sources picks)))

-- The conditions on row references that callers pass, after others.
abbrev pub picks_conditions : List PickWords → List ℕ → Bool → List (ℕ × Type 0)
picks_conditions words bits has_bits =
    (rule_status TooManyRows, length words ≤ max_rows)
    ∷ (rule_status ValidityLength, lacks_bits bits has_bits (length words) ≡ false) ∷ []
