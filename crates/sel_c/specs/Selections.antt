-- What calls that prepare a mask, or filter by one, guarantee.
use Rattle.std.specs.Prelude.{◌≡◌, ◌≤◌, ◌*◌, ◌==◌, cond, ℕ, Bool, List, [], ◌∷◌, length}
use Rattle.std.specs.Prelude.{Option, None, Some}
use Rattle.std.specs.Option.{IsSomeAnd}
use Rattle.sel_bits.specs.Bits.{bits_from}
use Rattle.sel_arrow.specs.Shape.{of_boolean}
use Rattle.sel_c.specs.Returns.{ReturnsColumn}
use Rattle.sel_ffi.specs.Held.{Held}
use Rattle.sel_ffi.specs.Status.{ok, no_column, unsupported_type, length_mismatch}
use Rattle.sel_ffi.specs.Status.{held_rows, held_type, HasColumn, ReturnsFirst}
use Rattle.sel_kernels.specs.Select.{select, effective_mask}
use Rattle.sel_kernels.specs.declared.filter.selection.Selection.{Selection}

-- The handle has a selection.
abbrev pub HasSelection : Option Selection → Type 0
HasSelection None = ⊥
HasSelection (Some selection) = Unit {0}

-- The mask of a handle's selection; no rows for an empty handle.
abbrev pub held_mask : Option Selection → List Bool
held_mask None = []
held_mask (Some selection) = selection.mask.bits

-- On success the handle has a selection with this mask, on error it is unchanged. The status is out
-- of memory, that of the first condition that does not hold, or success.
pub record Prepares (code : ℕ) (before after : Option Selection) (mask : List Bool)
    (conditions : List (ℕ × Type 0)) : Type 0 where
  pub selection : cond (code == ok) (IsSomeAnd after (λ made. made.mask.bits ≡ mask))
      (after ≡ before)
  pub checks : ReturnsFirst code conditions (code ≡ ok)

-- The mask of the rows where a boolean column is true and valid.
abbrev pub PreparesColumn : ℕ → Held → Option Selection → Option Selection → Type 0
PreparesColumn code mask before after =
    Prepares code before after (effective_mask (held_rows mask))
    ((no_column, HasColumn mask) ∷ (unsupported_type, held_type mask ≡ of_boolean) ∷ [])

-- The mask of the first bits of these bytes, least significant bit first.
abbrev pub PreparesBits : ℕ → List ℕ → ℕ → Option Selection → Option Selection → Type 0
PreparesBits code mask len before after =
    Prepares code before after (bits_from mask 0 len)
    ((length_mismatch, len ≤ 8 * length mask) ∷ [])

-- The rows that a selection selects.
abbrev pub FiltersBySelection : ℕ → Held → Option Selection → Held → Held → Type 0
FiltersBySelection code of by before after =
    ReturnsColumn code before after (select (held_rows of) (held_mask by)) (held_type of)
    ((no_column, HasColumn of × HasSelection by)
    ∷ (length_mismatch, length (held_rows of) ≡ length (held_mask by)) ∷ []) (code ≡ ok)
