-- The rules for the parts of columns.
use Rattle.std.specs.Prelude.{ℕ, ◌*◌, ◌==◌, Bool, [], ◌∷◌, List, length, Option, Some, None, not}
use Rattle.std.specs.Prelude.{nat_lt}
use Rattle.std.specs.List.{list_all}
use Rattle.sel_bits.specs.Bits.{Bits}
use Rattle.sel_bits.specs.Faults.{first_broken}
use Rattle.sel_bits.specs.declared.faults.Malformed.{Malformed}
use Rattle.sel_bits.specs.declared.faults.Malformed.TheVariants.{TooManyRows, TooManyBuffers, Width}
use Rattle.sel_bits.specs.declared.faults.Malformed.TheVariants.{OffsetRange, ChildLength}
use Rattle.sel_bits.specs.declared.faults.Malformed.TheVariants.{FieldLength, ValidityLength}
use Rattle.sel_bits.specs.declared.faults.Malformed.TheVariants.{ViewRange, ViewPrefix, Utf8}
use Rattle.sel_arrow.specs.Masked.{too_many}
use Rattle.sel_bits.specs.Validity.{validity_differs}
use Rattle.sel_arrow.specs.Pieces.{rows_between, last_offset}
use Rattle.sel_arrow.specs.Texts.{all_text}
use Rattle.sel_arrow.specs.Views.{is_in_range, has_prefix, view_rows}
use Rattle.sel_arrow.specs.declared.view.View.{View}

-- The first broken rule of n integers or booleans with a validity.
abbrev pub flat_fault : ℕ → Option Bits → Option Malformed
flat_fault n validity =
    first_broken ((TooManyRows, too_many n) ∷ (ValidityLength, validity_differs validity n) ∷ [])

-- The first broken rule of n null rows.
abbrev pub null_fault : ℕ → Option Malformed
null_fault n = first_broken ((TooManyRows, too_many n) ∷ [])

-- The first broken rule of binary with offsets.
abbrev pub binary_fault : List ℕ → List ℕ → Option Bits → Option Malformed
binary_fault offsets bytes validity =
    first_broken ((TooManyRows, too_many (rows_between offsets))
    ∷ (OffsetRange, nat_lt (length bytes) (last_offset offsets))
    ∷ (ValidityLength, validity_differs validity (rows_between offsets)) ∷ [])

-- The first fault, or the second if the first is none.
abbrev pub or_else : Option Malformed → Option Malformed → Option Malformed
or_else None next = next
or_else (Some fault) next = Some fault

-- The first broken rule of one view.
abbrev pub view_fault : List (List ℕ) → View → Option Malformed
view_fault buffers view =
    first_broken ((ViewRange, not (is_in_range buffers view))
    ∷ (ViewPrefix, not (has_prefix buffers view)) ∷ [])

-- The first broken rule of several views, view by view.
abbrev pub views_fault : List (List ℕ) → List View → Option Malformed
views_fault buffers [] = None
views_fault buffers (view ∷ views) = or_else (view_fault buffers view) (views_fault buffers views)

-- The first broken rule of binary views.
abbrev pub binview_fault : List View → List (List ℕ) → Option Bits → Option Malformed
binview_fault views buffers validity =
    or_else (first_broken ((TooManyRows, too_many (length views))
    ∷ (TooManyBuffers, too_many (length buffers))
    ∷ (ValidityLength, validity_differs validity (length views)) ∷ []))
    (views_fault buffers views)

-- The first broken rule of UTF-8 string views.
abbrev pub utf8view_fault : List View → List (List ℕ) → Option Bits → Option Malformed
utf8view_fault views buffers validity =
    or_else (binview_fault views buffers validity)
    (first_broken ((Utf8, not (all_text (view_rows views buffers validity))) ∷ []))

-- The first broken rule of lists with offsets, given the number of rows of the child.
abbrev pub list_fault : List ℕ → ℕ → Option Bits → Option Malformed
list_fault offsets child validity =
    first_broken ((TooManyRows, too_many (rows_between offsets))
    ∷ (OffsetRange, nat_lt child (last_offset offsets))
    ∷ (ValidityLength, validity_differs validity (rows_between offsets)) ∷ [])

-- The first broken rule of n fixed-size lists, given the list size and the number of rows of the
-- child.
abbrev pub block_fault : ℕ → ℕ → ℕ → Option Bits → Option Malformed
block_fault size n child validity =
    first_broken ((TooManyRows, too_many n) ∷ (Width, too_many size)
    ∷ (ChildLength, not (child == n * size)) ∷ (ValidityLength, validity_differs validity n) ∷ [])

-- The first broken rule of n struct rows, given whether each field has n rows.
abbrev pub struct_length_fault : ℕ → Bool → Option Bits → Option Malformed
struct_length_fault n fit validity =
    first_broken ((TooManyRows, too_many n) ∷ (FieldLength, not fit)
    ∷ (ValidityLength, validity_differs validity n) ∷ [])

-- The first broken rule of n struct rows, given the number of rows of each field.
abbrev pub struct_fault : ℕ → List ℕ → Option Bits → Option Malformed
struct_fault n fields validity =
    struct_length_fault n (list_all (λ rows. rows == n) fields) validity
