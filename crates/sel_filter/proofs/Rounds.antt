-- The rounds of the compress: before round i each set bit of the masked word w is at its `spot`, and
-- no other bit is set.
use Rattle.sel_filter.proofs.Common.{◌≡◌, ℕ, zero, suc, ◌+◌, ◌-◌, ◌*◌, ◌/◌, ◌%◌, ◌^◌, ◌<◌, ◌≤◌, min, ◌∙◌, sym, ap, ⊎_elim, arith, bit_and, bit_at, w64, pow_pos}
use Rattle.sel_filter.proofs.Common.{shr-shr, bit_at-lt, bit_at_and, bit_at_above, cases_lt, div-one, ones_below, bit_at_shr}
use Rattle.std.proofs.Common.{max, ◌⊎◌}
use Rattle.std.specs.Int.{bit_not}
use Rattle.std.proofs.lemmas.Nat.Bits.{bit_at_or, bit_at_not, same_from_bits}
use Rattle.sel_bits.proofs.{Counts.ones_zero, Counts.ones_suc, Shifts.moved}
use Rattle.sel_filter.proofs.{Clears.clears, Clears.clears_ones, Clears.clears_suc, Clears.clears_up, Spots.spot, Spots.spot_next, Spots.spot_block}

-- A set bit of a word after a move either was not moved, or was moved down.
bit_at_moved : (word p i s : ℕ) → bit_at (moved word p i) s ≡ max (min (bit_at word s) (bit_at (bit_not w64 p) s)) (min (bit_at word (s + i)) (bit_at p (s + i)))
bit_at_moved word p i s = simp (bit_at_or, bit_at_and, bit_at_shr)

-- The mask m keeps bit q.
abbrev pub IsKept : ℕ → ℕ → Type 0
IsKept m q = (q < 64) × (bit_at m q ≡ 1)

-- The mask m keeps each set bit of w.
abbrev pub IsUnder : ℕ → ℕ → Type 0
IsUnder m w = (q : ℕ) → bit_at w q ≡ 1 → IsKept m q

pub masked : (v m : ℕ) → m < 2 ^ 64 → IsUnder m (bit_and v m)
masked v m fits q set =
    let kept : bit_at m q ≡ 1 = omega (arith, bit_at_and v m q, bit_at-lt m q) in
    (grind (arith, bit_at_above m 64 q fits, kept), kept)

-- The word before round i: the set bits of w, each at its `spot`.
pub record Standing (m w i word : ℕ) : Type 0 where
  pub there : (q : ℕ) → bit_at w q ≡ 1 → bit_at word (spot m (2 ^ i) q) ≡ 1
  pub back : (s : ℕ) → bit_at word s ≡ 1 → (q : ℕ) × (bit_at w q ≡ 1) × (s ≡ spot m (2 ^ i) q)

-- p marks the positions with an odd number of whole blocks of 2 ^ i clear bits below.
abbrev pub MarksOdd : ℕ → ℕ → ℕ → Type 0
MarksOdd m i p = (q : ℕ) → IsKept m q → (s : ℕ) → s < 64 → bit_at p s ≡ clears m s / 2 ^ i % 2

-- k has one set bit for each whole block of 2 ^ i clear bits.
abbrev pub CountsBlocks : ℕ → ℕ → ℕ → Type 0
CountsBlocks m i k = (q : ℕ) → IsKept m q → (s : ℕ) → s ≤ 64 → ones_below k s ≡ clears m s / 2 ^ i

-- A bit that is set by either of two terms.
two_ways : (a b c d : ℕ) → a < 2 → b < 2 → c < 2 → d < 2 → max (min a b) (min c d) ≡ 1 → ((a ≡ 1) × (b ≡ 1)) ⊎ ((c ≡ 1) × (d ≡ 1))
two_ways a b c d la lb lc ld h = grind arith

module _ (m w i word p : ℕ) (under : IsUnder m w) (was : Standing m w i word) (p_fits : p < 2 ^ 64) (odd : MarksOdd m i p) where
  inside : (q : ℕ) → bit_at w q ≡ 1 → spot m (2 ^ i) q < 64
  inside q set = omega (arith, (under q set).0)

  -- The mark at its spot says whether a set bit moves.
  mark : (q : ℕ) → bit_at w q ≡ 1 → bit_at p (spot m (2 ^ i) q) ≡ clears m q / 2 ^ i % 2
  mark q set = odd q (under q set) (spot m (2 ^ i) q) (inside q set) ∙ ap (λ x. x % 2) (spot_block m (2 ^ i) q (pow_pos i))

  there : (q : ℕ) → bit_at w q ≡ 1 → bit_at (moved word p (2 ^ i)) (spot m (2 ^ suc i) q) ≡ 1
  there q set =
      let s = spot m (2 ^ i) q in
      let t = spot m (2 ^ suc i) q in
      let to : t + clears m q / 2 ^ i % 2 * 2 ^ i ≡ s = spot_next m i q in
      let here = was.there q set in
      let at_s = mark q set in
      ⊎_elim
      (λ even.
      let parity : clears m q / 2 ^ i % 2 ≡ 0 = omega (arith, even) in
      let stays : t ≡ s = omega (arith, to, ap (λ x. x * 2 ^ i) parity) in
      ap (bit_at (moved word p (2 ^ i))) stays ∙ omega (arith, bit_at_moved word p (2 ^ i) s, here, at_s, parity, bit_at_not w64 p s p_fits (inside q set), bit_at-lt word (s + 2 ^ i)))
      (λ more.
      let parity : clears m q / 2 ^ i % 2 ≡ 1 = omega (arith, more) in
      let from : t + 2 ^ i ≡ s = omega (arith, to, ap (λ x. x * 2 ^ i) parity) in
      omega (arith, bit_at_moved word p (2 ^ i) t, ap (bit_at word) from, ap (bit_at p) from, here, at_s, parity, bit_at-lt word t))
      (cases_lt (clears m q / 2 ^ i % 2) 1)

  -- A set bit of the word, and where it goes.
  goes : (s : ℕ) → bit_at word s ≡ 1 → (q : ℕ) × (bit_at w q ≡ 1) × (s < 64) × (spot m (2 ^ suc i) q + bit_at p s * 2 ^ i ≡ s)
  goes s set = grind (arith, mark, spot_next)

  back : (s : ℕ) → bit_at (moved word p (2 ^ i)) s ≡ 1 → (q : ℕ) × (bit_at w q ≡ 1) × (s ≡ spot m (2 ^ suc i) q)
  back s set =
      ⊎_elim
      (λ stays.
      let o = goes s stays.0 in
      let stay : bit_at p s ≡ 0 = omega (arith, bit_at_not w64 p s p_fits o.2, stays.1, bit_at-lt p s) in
      (o.0, o.1, omega (arith, o.3, ap (λ x. x * 2 ^ i) stay)))
      (λ falls.
      let o = goes (s + 2 ^ i) falls.0 in
      (o.0, o.1, omega (arith, o.3, ap (λ x. x * 2 ^ i) falls.1)))
      (two_ways _ _ _ _ (bit_at-lt word s) (bit_at-lt (bit_not w64 p) s) (bit_at-lt word (s + 2 ^ i)) (bit_at-lt p (s + 2 ^ i)) (sym (bit_at_moved word p (2 ^ i) s) ∙ set))

  pub next_standing : Standing m w (suc i) (moved word p (2 ^ i))
  next_standing = record { there = there; back = back }

-- ---- the marks

-- Before the first round, the complement of the mask has one set bit for each clear bit.
pub first_counts : (m : ℕ) → m < 2 ^ 64 → CountsBlocks m 0 (bit_not w64 m)
first_counts m fits q kept s le = counted s le ∙ sym (div-one (clears m s))
  where
    counted : (s : ℕ) → s ≤ 64 → ones_below (bit_not w64 m) s ≡ clears m s
    counted zero le = omega (arith, ones_zero (bit_not w64 m), clears_ones m 0)
    counted (suc s) le = omega (arith, counted s (omega arith), ones_suc (bit_not w64 m) s, clears_suc m s, bit_at_not w64 m s fits le)

-- The set bits of k at marked positions count the blocks of twice the length.
pub next_counts : (m i k p : ℕ) → CountsBlocks m i k → MarksOdd m i p → CountsBlocks m (suc i) (bit_and k p)
next_counts m i k p counts odd q kept = counted
  where
    halved : (s : ℕ) → clears m s / 2 ^ suc i ≡ clears m s / 2 ^ i / 2
    halved s = let e : suc i ≡ i + 1 = omega arith in ap (λ j. clears m s / 2 ^ j) e ∙ sym (shr-shr (clears m s) i 1)

    counted : (s : ℕ) → s ≤ 64 → ones_below (bit_and k p) s ≡ clears m s / 2 ^ suc i
    counted zero le = omega (arith, ones_zero (bit_and k p), ones_zero k, counts q kept 0 le, halved 0)
    counted (suc s) le =
        omega (
          arith,
          counted s (omega arith),
          ones_suc (bit_and k p) s,
          ones_suc k s,
          counts q kept s (omega arith),
          counts q kept (suc s) le,
          odd q kept s le,
          bit_at_and k p s,
          bit_at-lt k s,
          halved s,
          halved (suc s),
        )

-- The parity of the number of k's set bits below each position gives the marks.
pub parity_marks : (m i k p : ℕ) → CountsBlocks m i k → ((s : ℕ) → s < 64 → bit_at p s ≡ ones_below k s % 2) → MarksOdd m i p
parity_marks m i k p counts parity q kept s lt = parity s lt ∙ ap (λ x. x % 2) (counts q kept s (omega arith))

-- If at least one bit is kept, at most 63 bits are clear, so there is at most one block of 32.
pub one_block : (m k : ℕ) → CountsBlocks m 5 k → (q : ℕ) → IsKept m q → ones_below k 64 ≤ 1
one_block m k counts q kept =
    let up : suc q + (63 - q) ≡ 64 = omega (arith, kept.0) in
    omega (arith, counts q kept 64 (omega arith), clears_ones m q, clears_suc m q, kept.1, (rw up at (clears_up m (suc q) (63 - q))).1)

-- ---- the first and the last word

-- The masked word determines the word before each round.
pub one_standing : (m w i a b : ℕ) → Standing m w i a → Standing m w i b → a ≡ b
one_standing m w i a b sa sb = same_from_bits a b (λ s. grind (arith, bit_at-lt a s, bit_at-lt b s, carried a b sa sb s, carried b a sb sa s))
  where
    carried : (a b : ℕ) → Standing m w i a → Standing m w i b → (s : ℕ) → bit_at a s ≡ 1 → bit_at b s ≡ 1
    carried a b sa sb s set = let o = sa.back s set in ap (bit_at b) o.2 ∙ sb.there o.0 o.1
