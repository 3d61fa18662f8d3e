-- What the calls guarantee that take rows at indices.
use Rattle.std.specs.Prelude.{◌≡◌, ◌≤◌, ◌++◌, ℕ, Bool, false, List, [], ◌∷◌, length, pos, IsTrue}
use Rattle.sel_bits.specs.Limits.{max_rows}
use Rattle.sel_bits.specs.declared.faults.Malformed.TheVariants.{TooManyRows, ValidityLength}
use Rattle.sel_arrow.specs.Masked.{number_rows}
use Rattle.sel_arrow.specs.Shape.{of_uint32}
use Rattle.sel_arrow.specs.Value.{Value}
use Rattle.sel_c.specs.Returns.{IsOkOrLimit, ReturnsColumn}
use Rattle.sel_ffi.specs.Held.{Held}
use Rattle.sel_ffi.specs.Inputs.{lacks_bits, validity_in}
use Rattle.sel_ffi.specs.Status.{no_column, unsupported_type, index_out_of_bounds, rule_status}
use Rattle.sel_ffi.specs.Status.{held_rows, held_type, HasColumn}
use Rattle.sel_gather.specs.Need.{exceeded_limits}
use Rattle.sel_kernels.specs.Pick.{all_within, take_rows}

-- The rows at these indices. The bounds are checked after the conditions.
abbrev pub TakesRows : ℕ → Held → List Value → List (ℕ × Type 0) → Held → Held → Type 0
TakesRows code of indices conditions before after =
    ReturnsColumn code before after (take_rows (held_rows of) indices) (held_type of)
    (conditions
    ++ (index_out_of_bounds, IsTrue (all_within (length (held_rows of)) indices)) ∷ [])
    (IsOkOrLimit code (exceeded_limits (held_type of) (take_rows (held_rows of) indices)))

-- The rows at the indices in a column.
abbrev pub Takes : ℕ → Held → Held → Held → Held → Type 0
Takes code of indices before after =
    TakesRows code of (held_rows indices)
    ((no_column, HasColumn of × HasColumn indices)
    ∷ (unsupported_type, held_type indices ≡ of_uint32) ∷ []) before after

-- The rows at the indices in an array, with a validity.
abbrev pub TakesAt : ℕ → Held → List ℕ → List ℕ → Bool → Held → Held → Type 0
TakesAt code of indices bits has_bits before after =
    TakesRows code of (number_rows pos indices (validity_in bits has_bits (length indices)))
    ((no_column, HasColumn of) ∷ (rule_status TooManyRows, length indices ≤ max_rows)
    ∷ (rule_status ValidityLength, lacks_bits bits has_bits (length indices) ≡ false) ∷ [])
    before after
