-- The bits of bytes, from a byte on and before a byte boundary.
use Rattle.sel_filter.proofs.Common.{◌≡◌, ℕ, ◌+◌, ◌-◌, ◌*◌, ◌/◌, ◌%◌, ◌^◌, ◌<◌, ◌≤◌, min, List, [], ◌∷◌, length, take, drop, get_or, refl, sym, ◌∙◌}
use Rattle.sel_filter.proofs.Common.{⊎_elim, cases_lt, nil_from_length, arith, length-drop, bits_from, length_bits_from, bit_at_shr}
use Rattle.sel_bits.specs.Bits.{Bits, bit_in}
use Rattle.sel_bits.proofs.{BitLists.bits_from_part, BitLists.same_bits_from, Loads.from_byte, Zeros.bits_from_dropped}
use Rattle.sel_filter.specs.Scalar.{rows_to_boundary, up_to_boundary}

-- The bits from byte k on are a part of all bits.
pub bits_part : (bytes : List ℕ) (o n k at count : ℕ) → at ≡ 8 * k → at + count ≤ n → bits_from (drop k bytes) o count ≡ take count (drop at (bits_from bytes o n))
bits_part bytes o n k at count here within = from_byte bytes k o (o + at) count (omega arith) ∙ bits_from_part bytes o n at count within

-- The last bits, from a byte and a bit on.
pub bits_rest : (bytes : List ℕ) (k place o n count : ℕ) → count ≤ n → (count < n → 8 * k + place ≡ o + count) → bits_from (drop k bytes) place (n - count) ≡ drop count (bits_from bytes o n)
bits_rest bytes k place o n count few there =
    ⊎_elim
    (λ inside. from_byte bytes k place (o + count) (n - count) (there inside) ∙ bits_from_dropped bytes o n count few)
    (λ (end : n ≤ count).
    nil_from_length (bits_from (drop k bytes) place (n - count)) (omega (arith, length_bits_from (drop k bytes) place (n - count)))
    ∙ sym (nil_from_length (drop count (bits_from bytes o n)) (omega (arith, length-drop count (bits_from bytes o n), length_bits_from bytes o n))))
    (cases_lt count n)

-- ---- the first byte

-- The bits of the first byte from bit o on.
pub first_bits : (bytes : List ℕ) (o n count : ℕ) → o < 8 → count ≤ n → count + o ≤ 8 → 0 < length bytes → bits_from (get_or bytes 0 0 / 2 ^ o ∷ []) 0 count ≡ take count (bits_from bytes o n)
first_bits bytes o n count place le within some = same_bits_from (get_or bytes 0 0 / 2 ^ o ∷ []) bytes 0 o count same ∙ bits_part bytes o n 0 0 count refl (omega arith)
  where
    same : (i : ℕ) → i < count → bit_in (get_or bytes 0 0 / 2 ^ o ∷ []) (0 + i) ≡ bit_in bytes (o + i)
    same i lt = grind (arith, bit_at_shr)

boundary_some : (o n : ℕ) → 0 < o → up_to_boundary o n ≡ min n (8 - o)
boundary_some o n some = grind arith

-- The rows before the boundary of a mask that does not begin at one.
pub boundary_rows : (mask : Bits) (o n count : ℕ) → 0 < o → o ≡ mask.offset % 8 → n ≡ length mask.bits → count ≡ min n (8 - o) → rows_to_boundary mask ≡ count
boundary_rows mask o n count some place long is = boundary_some (mask.offset % 8) (length mask.bits) (omega arith) ∙ omega arith
