-- The compressed word, by the source positions of its bits.
use Rattle.sel_filter.proofs.Common.{◌≡◌, ℕ, zero, suc, ◌+◌, ◌-◌, ◌*◌, ◌/◌, ◌^◌, ◌<◌, ◌∙◌, sym, refl, ap, ⊎_elim, arith, bit_at, bit_and}
use Rattle.sel_filter.proofs.Common.{bit_at-lt, bit_at-suc, bit_at_lowest, bit_at-zero, bit_at_and, cases_lt, bits, word_of, compress, select, bits_suc}
use Rattle.sel_filter.proofs.Common.{bits_zero, cond_of_bit, ones_below}
use Rattle.sel_bits.proofs.Counts.{ones_zero}
use Rattle.sel_filter.proofs.{Clears.ones_front, Spots.spot_last, Rounds.Standing, Rounds.masked, WordLists.bits_first}

-- The n lowest bits of v that m keeps, packed.
abbrev packed : ℕ → ℕ → ℕ → ℕ
packed n m v = word_of (select (bits n v) (bits n m))

-- If the lowest bit is not kept, the word is that of the other bits.
front_dropped : (n m v : ℕ) → bit_at m 0 ≡ 0 → packed (suc n) m v ≡ packed n (m / 2) (v / 2)
front_dropped n m v dropped = λ i. word_of (select (bits_suc n v i) (bits_first n m 0 (m / 2) dropped refl i))

-- If it is kept, it is the lowest bit of the word.
front_kept : (n m v : ℕ) → bit_at m 0 ≡ 1 → packed (suc n) m v ≡ bit_at v 0 + 2 * packed n (m / 2) (v / 2)
front_kept n m v kept = grind (arith, bits_suc, bits_first, cond_of_bit, bit_at-lt)

first_bit : (n m v : ℕ) → bit_at m 0 ≡ 1 → bit_at (packed (suc n) m v) 0 ≡ bit_at v 0
first_bit n m v kept = omega (arith, front_kept n m v kept, bit_at_lowest (packed (suc n) m v), bit_at-lt v 0)

later_bit : (n m v k s : ℕ) → s ≡ bit_at m 0 + k → bit_at (packed (suc n) m v) s ≡ bit_at (packed n (m / 2) (v / 2)) k
later_bit n m v k s is =
    ⊎_elim
    (λ low.
    let dropped : bit_at m 0 ≡ 0 = omega arith in
    let here : s ≡ k = omega arith in
    λ i. bit_at (front_dropped n m v dropped i) (here i))
    (λ high.
    let kept : bit_at m 0 ≡ 1 = omega (arith, bit_at-lt m 0) in
    let here : s ≡ suc k = omega arith in
    let half : packed (suc n) m v / 2 ≡ packed n (m / 2) (v / 2) = omega (arith, front_kept n m v kept, bit_at-lt v 0) in
    ap (bit_at (packed (suc n) m v)) here ∙ bit_at-suc (packed (suc n) m v) k ∙ ap (λ x. bit_at x k) half)
    (cases_lt (bit_at m 0) 1)

-- A kept bit that is set is at the number of kept bits before it.
there : (n m v q : ℕ) → q < n → bit_at m q ≡ 1 → bit_at v q ≡ 1 → bit_at (packed n m v) (ones_below m q) ≡ 1
there (suc n) m v (suc q) lt kept set =
    grind (arith, later_bit, ones_front, (there n (m / 2) (v / 2) q (omega arith) (sym (bit_at-suc m q) ∙ kept) (sym (bit_at-suc v q) ∙ set)))
there n m v q lt kept set = grind (arith, ones_zero, first_bit)

-- No other bit of the word is set.
back : (n m v s : ℕ) → bit_at (packed n m v) s ≡ 1 → (q : ℕ) × (bit_at m q ≡ 1) × (bit_at v q ≡ 1) × (s ≡ ones_below m q)
back zero m v s set = absurd (omega (arith, ap (λ l. bit_at (word_of (select l (bits 0 m))) s) (bits_zero v), bit_at-zero s, set))
back (suc n) m v s set =
    ⊎_elim
    (λ first.
    let here : s ≡ 0 = omega (arith, bit_at-lt m 0) in
    let kept : bit_at m 0 ≡ 1 = omega (arith, bit_at-lt m 0) in
    (0, kept, sym (first_bit n m v kept) ∙ ap (bit_at (packed (suc n) m v)) (sym here) ∙ set, here ∙ sym (ones_zero m)))
    (λ later.
    let here : s ≡ bit_at m 0 + (s - bit_at m 0) = omega arith in
    let o = back n (m / 2) (v / 2) (s - bit_at m 0) (sym (later_bit n m v (s - bit_at m 0) s here) ∙ set) in
    (suc o.0, bit_at-suc m o.0 ∙ o.1, bit_at-suc v o.0 ∙ o.2, omega (arith, o.3, ones_front m o.0)))
    (cases_lt s (bit_at m 0))

-- The compressed word is the word after the sixth round.
pub compress_standing : (m v : ℕ) → m < 2 ^ 64 → Standing m (bit_and v m) 6 (compress v m)
unfolding compress
compress_standing m v fits = record {
  there = λ q set.
      let kept = masked v m fits q set in
      let set_too : bit_at v q ≡ 1 = omega (arith, bit_at_and v m q, bit_at-lt v q) in
      ap (bit_at (packed 64 m v)) (spot_last m q kept.0) ∙ there 64 m v q kept.0 kept.1 set_too;
  back = λ s set.
      let o = back 64 m v s set in
      let both : bit_at (bit_and v m) o.0 ≡ 1 = omega (arith, bit_at_and v m o.0, o.1, o.2) in
      (o.0, both, o.3 ∙ sym (spot_last m o.0 (masked v m fits o.0 both).0));
}
