-- Column values that callers get.
use Rattle.std.specs.Prelude.{◌≡◌, ◌≢◌, ℕ, ℤ, ◌+◌, ◌/◌, Bool, true, false, List, [], ◌∷◌, length, map}
use Rattle.sel_bits.specs.Bits.{bits_from}
use Rattle.sel_arrow.specs.Masked.{hidden}
use Rattle.sel_arrow.specs.Nulls.{IsValidityOf}
use Rattle.sel_arrow.specs.Shape.{Shape, of_boolean}
use Rattle.sel_arrow.specs.Value.{Value, Number, Truth, validities}
use Rattle.sel_ffi.specs.Held.{Held}
use Rattle.sel_ffi.specs.Inputs.{validity_in}
use Rattle.sel_ffi.specs.Status.{ok, no_column, unsupported_type, length_mismatch}
use Rattle.sel_ffi.specs.Status.{held_rows, held_type, HasColumn, ReturnsFirst}

-- The rows are these values, except in null slots.
abbrev pub Shows : List Value → List Value → Type 0
Shows values rows = rows ≡ hidden (validities rows) values

-- Numbers, and booleans, as values.
abbrev pub numbers : {T : Type 0} → (T → ℤ) → List T → List Value
numbers number xs = map (λ x. Number (number x)) xs

abbrev pub bools : List Bool → List Value
bools bits = map Truth bits

-- The values of a column of this type are copied: they are its rows, except in null slots. On error
-- nothing is written.
pub record CopiesNumbers {T : Type 0} (code : ℕ) (held : Held) (shape : Shape) (number : T → ℤ)
    (before after : List T) : Type 0 where
  pub values : code ≡ ok → Shows (numbers number after) (held_rows held)
  pub unchanged : code ≢ ok → after ≡ before
  pub checks : ReturnsFirst code
      ((no_column, HasColumn held) ∷ (unsupported_type, held_type held ≡ shape)
      ∷ (length_mismatch, length before ≡ length (held_rows held)) ∷ []) (code ≡ ok)

-- The values of a boolean column are copied as bits, least significant bit first. On error nothing
-- is written.
pub record CopiesBooleans (code : ℕ) (held : Held) (before after : List ℕ) : Type 0 where
  pub values : code ≡ ok →
      Shows (bools (bits_from after 0 (length (held_rows held)))) (held_rows held)
  pub unchanged : code ≢ ok → after ≡ before
  pub checks : ReturnsFirst code
      ((no_column, HasColumn held) ∷ (unsupported_type, held_type held ≡ of_boolean)
      ∷ (length_mismatch, length before ≡ (length (held_rows held) + 7) / 8) ∷ []) (code ≡ ok)

-- The validity of a column is copied, least significant bit first, or `has` is false. On error no
-- bit is written.
pub record CopiesValidity (code : ℕ) (held : Held) (before after : List ℕ) (has : Bool)
    : Type 0 where
  pub validity : code ≡ ok → IsValidityOf (held_type held)
      (validity_in after has (length (held_rows held))) (held_rows held)
  pub absent : has ≡ false → after ≡ before
  pub unchanged : code ≢ ok → after ≡ before
  pub checks : ReturnsFirst code
      ((no_column, HasColumn held)
      ∷ (length_mismatch, has ≡ true → length before ≡ (length (held_rows held) + 7) / 8) ∷ [])
      (code ≡ ok)
