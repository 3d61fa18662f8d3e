-- Row references that are computed one by one, and the bits that they refer to.
use Rattle.std.specs.Prelude.{ℕ, ◌<◌, ◌^◌, ⊤, Bool, false, List, map, length, Option, Some}
use Rattle.std.specs.Prelude.{None, slice_index_or}
use Rattle.std.specs.Option.{ForSome}
use Rattle.sel_bits.specs.Bits.{Bits}
use Rattle.sel_bits.specs.Validity.{valid_at}

-- The row reference is not none.
abbrev pub IsPicked : Option (ℕ × ℕ) → Type 0
IsPicked None = ⊥
IsPicked (Some p) = ⊤

-- The row reference is none, or its position is less than 2^32.
abbrev pub IsNear : Option (ℕ × ℕ) → Type 0
IsNear pick = ForSome pick (λ p. p.1 < 2 ^ 32)

-- The row reference is none, or refers to one of these bitmaps and, if that bitmap is present, to
-- one of its bits.
abbrev pub HasBit : List (Option Bits) → Option (ℕ × ℕ) → Type 0
HasBit maps None = ⊤
HasBit maps (Some p) = (p.0 < length maps)
    × ForSome (slice_index_or maps p.0 None) (λ bits. p.1 < length bits.bits)

-- The bit that a row reference refers to: true if its bitmap is absent, false for none (Arrow
-- columnar format: validity bitmaps).
abbrev pub bit_found : List (Option Bits) → Option (ℕ × ℕ) → Bool
bit_found maps None = false
bit_found maps (Some p) = valid_at (slice_index_or maps p.0 None) p.1

-- The bits that row references refer to.
abbrev pub bits_found : List (Option Bits) → List (Option (ℕ × ℕ)) → List Bool
bits_found maps ps = map (bit_found maps) ps
