-- The entries that a mask selects, one set bit at a time from the lowest.
use Rattle.sel_filter.proofs.Common.{◌≡◌, ℕ, suc, ◌-◌, ◌*◌, ◌/◌, ◌%◌, ◌^◌, ◌<◌, ◌∙◌, sym, refl, ap, ⊎_elim, arith, List, ◌∷◌, length}
use Rattle.sel_filter.proofs.Common.{get_or, bit_and, cases_lt, pow-suc, bit_at_lowest, bit_at_above, bit_at-trailing_zeros, trailing_zeros, w64, bits, select}
use Rattle.std.specs.Int.Bits.{and_self}
use lib.Bits.{and_step}
use lib.Count.{count_trailing_zeros, under}
use Rattle.sel_filter.proofs.WordLists.{bits_first}

-- The position of the lowest set bit of m, and m without it, by the lowest bit and half of m.
module _ (k m : ℕ) (some : 0 < m) where
  place_even : m % 2 ≡ 0 → count_trailing_zeros (suc k) m ≡ suc (count_trailing_zeros k (m / 2))
  unfolding count_trailing_zeros
  place_even even = ap (λ b. under b (count_trailing_zeros k (m / 2))) even

  place_odd : m % 2 ≡ 1 → count_trailing_zeros (suc k) m ≡ 0
  unfolding count_trailing_zeros
  place_odd odd = ap (λ b. under b (count_trailing_zeros k (m / 2))) odd

  rest_even : m % 2 ≡ 0 → bit_and m (m - 1) ≡ bit_and (m / 2) (m / 2 - 1) * 2
  rest_even even = let half : (m - 1) / 2 ≡ m / 2 - 1 = omega arith in omega (arith, and_step m (m - 1), ap (bit_and (m / 2)) half)

  rest_odd : m % 2 ≡ 1 → bit_and m (m - 1) ≡ m / 2 * 2
  rest_odd odd = let half : (m - 1) / 2 ≡ m / 2 = omega arith in omega (arith, and_step m (m - 1), ap (bit_and (m / 2)) half ∙ and_self (m / 2))

-- The entry at the lowest set bit is the first one kept; the others are those at the other set bits.
pub first_kept : {A : Type 0} → (xs : List A) (d : A) (k m : ℕ) → 0 < m → m < 2 ^ length xs → m < 2 ^ k
    → select xs (bits (length xs) m) ≡ get_or xs (count_trailing_zeros k m) d ∷ select xs (bits (length xs) (bit_and m (m - 1)))
first_kept (x ∷ xs) d (suc k) m some fits few =
    let n = length xs in
    let rest = bit_and m (m - 1) in
    ⊎_elim
    (λ low.
    let even : m % 2 ≡ 0 = omega arith in
    let left = rest_even k m some even in
    ap (select (x ∷ xs)) (bits_first n m 0 (m / 2) (bit_at_lowest m ∙ even) refl)
    ∙ first_kept xs d k (m / 2) (omega arith) (omega (arith, pow-suc 2 n)) (omega (arith, pow-suc 2 k))
    ∙ sym (λ i. get_or (x ∷ xs) (place_even k m some even i) d ∷ select (x ∷ xs) (bits_first n rest 0 (bit_and (m / 2) (m / 2 - 1)) (omega (arith, bit_at_lowest rest, left)) (omega (arith, left)) i)))
    (λ high.
    let odd : m % 2 ≡ 1 = omega arith in
    let left = rest_odd k m some odd in
    ap (select (x ∷ xs)) (bits_first n m 1 (m / 2) (bit_at_lowest m ∙ odd) refl)
    ∙ sym (λ i. get_or (x ∷ xs) (place_odd k m some odd i) d ∷ select (x ∷ xs) (bits_first n rest 0 (m / 2) (omega (arith, bit_at_lowest rest, left)) (omega (arith, left)) i)))
    (cases_lt (m % 2) 1)
first_kept xs d k m some fits few = grind arith

-- The lowest set bit of a word of n bits is below position n.
pub first_within : (n m : ℕ) → 0 < m → m < 2 ^ n → m < 2 ^ 64 → trailing_zeros w64 m < n
first_within n m some fits few = grind (arith, bit_at_above m n (trailing_zeros w64 m) fits, (bit_at-trailing_zeros w64 m some few).1)
