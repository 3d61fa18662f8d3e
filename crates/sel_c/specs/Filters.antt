-- What the filters guarantee.
use Rattle.std.specs.Prelude.{◌≡◌, ◌≤◌, ◌*◌, ℕ, List, [], ◌∷◌, length}
use Rattle.sel_bits.specs.Bits.{bits_from}
use Rattle.sel_arrow.specs.Shape.{of_boolean}
use Rattle.sel_c.specs.Returns.{ReturnsColumn}
use Rattle.sel_ffi.specs.Held.{Held}
use Rattle.sel_ffi.specs.Status.{ok, no_column, unsupported_type, length_mismatch}
use Rattle.sel_ffi.specs.Status.{held_rows, held_type, HasColumn}
use Rattle.sel_kernels.specs.Select.{select, effective_mask}

-- The rows where a boolean column is true and valid.
abbrev pub Filters : ℕ → Held → Held → Held → Held → Type 0
Filters code of mask before after =
    ReturnsColumn code before after
    (select (held_rows of) (effective_mask (held_rows mask))) (held_type of)
    ((no_column, HasColumn of × HasColumn mask) ∷ (unsupported_type, held_type mask ≡ of_boolean)
    ∷ (length_mismatch, length (held_rows of) ≡ length (held_rows mask)) ∷ []) (code ≡ ok)

-- The rows whose bit is set in these bytes, least significant bit first.
abbrev pub FiltersByBits : ℕ → Held → Held → Held → List ℕ → ℕ → Type 0
FiltersByBits code of before after mask len =
    ReturnsColumn code before after (select (held_rows of) (bits_from mask 0 len)) (held_type of)
    ((no_column, HasColumn of)
    ∷ (length_mismatch, (len ≡ length (held_rows of)) × (len ≤ 8 * length mask)) ∷ []) (code ≡ ok)
