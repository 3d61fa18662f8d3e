-- Validities, offsets and views that callers pass.
use Rattle.std.specs.Prelude.{◌≡◌, ℕ, ℤ, ◌*◌, Bool, true, false, List, length, Option, None, Some}
use Rattle.std.specs.Prelude.{nat_lt, ◌&&◌, [], ◌∷◌, map}
use Rattle.sel_ffi.specs.declared.views.ViewWords.{ViewWords}
use Rattle.sel_bits.specs.Faults.{first_broken}
use Rattle.sel_bits.specs.declared.faults.Malformed.{Malformed}
use Rattle.sel_bits.specs.declared.faults.Malformed.TheVariants.{TooManyRows, ValidityLength}
use Rattle.sel_bits.specs.Offsets.{offsets_fault, magnitudes}
use Rattle.sel_bits.specs.declared.faults.MakeError.{MakeError}
use Rattle.sel_bits.specs.declared.faults.MakeError.TheVariants as make
use Rattle.sel_arrow.specs.Makers.{or_else, binary_fault, list_fault, block_fault, struct_fault}
use Rattle.sel_arrow.specs.Makers.{binview_fault, utf8view_fault}
use Rattle.sel_arrow.specs.declared.view.View.{View}
use Rattle.sel_arrow.specs.Masked.{too_many}
use Rattle.sel_arrow.specs.Pieces.{rows_between}
use Rattle.sel_bits.specs.Bits.{Bits, unsliced, bits_from}

-- The validity of n rows in bytes, least significant bit first; none if the flag is false (Arrow
-- columnar format: validity bitmaps).
abbrev pub validity_in : List ℕ → Bool → ℕ → Option Bits
validity_in bytes false n = None
validity_in bytes true n = Some (unsliced (bits_from bytes 0 n))

-- Whether the bytes of a validity have fewer than n bits.
abbrev pub lacks_bits : List ℕ → Bool → ℕ → Bool
lacks_bits bytes has n = has && nat_lt (8 * length bytes) n

-- The first broken rule of n primitive or boolean rows with a validity.
abbrev pub flat_rules : ℕ → List ℕ → Bool → Option Malformed
flat_rules n bytes has =
    first_broken ((TooManyRows, too_many n) ∷ (ValidityLength, lacks_bits bytes has n) ∷ [])

-- The offsets as natural numbers (Arrow columnar format: offsets buffers).
abbrev pub positions : List ℤ → List ℕ
positions offsets = magnitudes (λ x. x) offsets

-- The rule that the validity of n rows has enough bits.
abbrev pub validity_rule : List ℕ → Bool → ℕ → Option Malformed
validity_rule bytes has n = first_broken ((ValidityLength, lacks_bits bytes has n) ∷ [])

-- The first broken rule of binary with 64-bit offsets.
abbrev pub binary_rules : List ℤ → List ℕ → List ℕ → Bool → Option Malformed
binary_rules offsets values bytes has =
    let n = rows_between (positions offsets) in
    or_else (offsets_fault (λ x. x) offsets)
    (or_else (validity_rule bytes has n)
    (binary_fault (positions offsets) values (validity_in bytes has n)))

-- The first broken rule of lists with 64-bit offsets, given the number of rows of the child.
abbrev pub list_rules : List ℤ → ℕ → List ℕ → Bool → Option Malformed
list_rules offsets child bytes has =
    let n = rows_between (positions offsets) in
    or_else (offsets_fault (λ x. x) offsets)
    (or_else (validity_rule bytes has n)
    (list_fault (positions offsets) child (validity_in bytes has n)))

-- The first broken rule of n fixed-size lists, given the number of rows of the child.
abbrev pub block_rules : ℕ → ℕ → ℕ → List ℕ → Bool → Option Malformed
block_rules size n child bytes has =
    or_else (validity_rule bytes has n) (block_fault size n child (validity_in bytes has n))

-- The first broken rule of n struct rows, given the number of rows of each field.
abbrev pub struct_rules : ℕ → List ℕ → List ℕ → Bool → Option Malformed
struct_rules n fields bytes has =
    or_else (validity_rule bytes has n) (struct_fault n fields (validity_in bytes has n))

-- The error is this broken rule, or out of memory.
abbrev pub IsRuleOrMemory : Option Malformed → MakeError → Type 0
IsRuleOrMemory fault (make.Malformed rule) = fault ≡ Some rule
IsRuleOrMemory fault make.OutOfMemory = Unit {0}

-- The first broken rule of binary views.
abbrev pub binview_rules : List View → List (List ℕ) → List ℕ → Bool → Option Malformed
binview_rules views buffers bytes has =
    or_else (validity_rule bytes has (length views))
    (binview_fault views buffers (validity_in bytes has (length views)))

-- The first broken rule of UTF-8 string views.
abbrev pub utf8view_rules : List View → List (List ℕ) → List ℕ → Bool → Option Malformed
utf8view_rules views buffers bytes has =
    or_else (validity_rule bytes has (length views))
    (utf8view_fault views buffers (validity_in bytes has (length views)))

-- The view in four words (Arrow columnar format: variable-size binary view layout).
abbrev pub view_in : ViewWords → View
view_in words =
    record {
      length = words.length;
      prefix = words.prefix;
      buffer_idx = words.buffer;
      offset = words.offset;
    }

-- The views that callers pass.
abbrev pub views_in : List ViewWords → List View
views_in words = map view_in words
