-- Row references to the bits of validities.
use Rattle.sel_runs.proofs.Common.{◌≡◌, ℕ, ◌<◌, All, List, [], ◌∷◌, length, map, get_or, Option, Some, None, zero, suc, arith, Bits, Covers, PickFits, HasBit}

module _ {S A : Type 0} (values : S → List A) (valid : S → Option Bits) (covers : (s : S) → Covers (valid s) (length (values s))) where
  bit_below : (ss : List S) (s i : ℕ) → i < length (get_or (map values ss) s []) → s < length (map valid ss)
  bit_below [] s i h = absurd (omega (arith, h))
  bit_below (x ∷ ss) zero i h = omega arith
  bit_below (x ∷ ss) (suc s) i h = omega (arith, bit_below ss s i h)

  bit_inside : (ss : List S) (s i : ℕ) → i < length (get_or (map values ss) s []) → (v : Bits) → get_or (map valid ss) s None ≡ Some v → i < length v.bits
  bit_inside [] s i h v e = absurd (omega (arith, h))
  bit_inside (x ∷ ss) zero i h v e = omega (arith, h, covers x v e)
  bit_inside (x ∷ ss) (suc s) i h v e = bit_inside ss s i h v e

  bit_fits : (ss : List S) (p : Option (ℕ × ℕ)) → PickFits (map values ss) p → HasBit (map valid ss) p
  bit_fits ss None h = h
  bit_fits ss (Some p) h = (bit_below ss p.0 p.1 h, bit_inside ss p.0 p.1 h)

  -- Row references that fit the values refer to bits of their validities.
  pub bits_fit : (ss : List S) (ps : List (Option (ℕ × ℕ))) → All (PickFits (map values ss)) ps → All (HasBit (map valid ss)) ps
  bits_fit ss ps fits k e h = bit_fits ss (get_or ps k e) (fits k e h)
