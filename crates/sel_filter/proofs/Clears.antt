-- The numbers of set and of clear bits below a position.
use Rattle.sel_filter.proofs.Common.{◌≡◌, ℕ, zero, suc, ◌+◌, ◌-◌, ◌/◌, ◌≤◌, refl, arith, bit_at, bit_at-lt, bit_at-suc, ones_below}
use Rattle.sel_bits.proofs.Counts.{ones_zero, ones_suc}

-- The number of clear bits of m below position q.
unfoldable pub clears : ℕ → ℕ → ℕ
clears m zero = 0
clears m (suc q) = clears m q + (1 - bit_at m q)

pub clears_suc : (m q : ℕ) → clears m (suc q) ≡ clears m q + (1 - bit_at m q)
unfolding clears
clears_suc m q = refl

pub clears_ones : (m q : ℕ) → clears m q + ones_below m q ≡ q
unfolding clears
clears_ones m zero = omega (arith, ones_zero m)
clears_ones m (suc q) = omega (arith, clears_ones m q, ones_suc m q, bit_at-lt m q)

-- d positions higher, the number of clear bits is at least as great, and at most d greater.
pub clears_up : (m q d : ℕ) → (clears m q ≤ clears m (q + d)) × (clears m (q + d) ≤ clears m q + d)
clears_up m q zero = let e : q + 0 ≡ q = omega arith in rw e (omega arith, omega arith)
clears_up m q (suc d) =
    let e : q + suc d ≡ suc (q + d) = omega arith in
    let before = clears_up m q d in
    rw e (omega (arith, clears_suc m (q + d), before.0), omega (arith, clears_suc m (q + d), before.1))

-- The set bits of a word, of which the lowest is counted first.
pub ones_front : (x q : ℕ) → ones_below x (suc q) ≡ bit_at x 0 + ones_below (x / 2) q
ones_front x zero = omega (arith, ones_suc x 0, ones_zero x, ones_zero (x / 2))
ones_front x (suc q) = omega (arith, ones_suc x (suc q), ones_front x q, ones_suc (x / 2) q, bit_at-suc x q)
