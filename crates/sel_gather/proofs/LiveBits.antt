-- Equal bits at the low end of words and of parts of bitmaps.
use Rattle.sel_gather.proofs.Common.{◌≡◌, ℕ, ◌+◌, ◌-◌, ◌%◌, ◌^◌, ◌<◌, ◌≤◌, ◌==◌, ◌∙◌, ap, sym, refl, arith, cond, Bool, true, false, List, get_or, take, drop}
use Rattle.sel_gather.proofs.Common.{w64, cases_lt, get_or-drop, get_or-take, word_of}
use Rattle.std.{proofs.Common.◌/◌, proofs.Common.⊎_elim, specs.Int.bit_at, specs.Int.trailing_ones, specs.Int.trailing_zeros}
use Rattle.sel_bits.{specs.Words.is_set, specs.Bits.bits_from, proofs.BitLists.bits_from_part, proofs.Loads.from_byte, proofs.Padded.bit_at_word_of}
use Rattle.sel_gather.specs.KeptPicks.{AreEqualBits}
use Rattle.std.proofs.lemmas.Nat.Bits.{bit_at-trailing_ones, bit_at-trailing_zeros, bit_at-zero, bit_at_ones}

-- The bits of a word below its lowest set bit, and below its lowest unset bit.
pub low_zeros : (n i : ℕ) → n < 2 ^ 64 → i < trailing_zeros w64 n → bit_at n i ≡ 0
low_zeros n i fits h =
    ⊎_elim (λ (some : 0 < n). (bit_at-trailing_zeros w64 n some fits).2 i h)
    (λ (none : n ≤ 0). let zero : n ≡ 0 = omega arith in ap (λ m. bit_at m i) zero ∙ bit_at-zero i)
    (cases_lt 0 n)

pub low_ones : (n i : ℕ) → n < 2 ^ 64 → i < 64 → i < trailing_ones w64 n → bit_at n i ≡ 1
low_ones n i fits low h =
    ⊎_elim (λ (some : n + 1 < 2 ^ 64). (bit_at-trailing_ones w64 n some).2 i h)
    (λ (all : 2 ^ 64 ≤ n + 1). let most : n ≡ 2 ^ 64 - 1 = omega arith in ap (λ m. bit_at m i) most ∙ bit_at_ones 64 i low)
    (cases_lt (n + 1) (2 ^ 64))

-- ---- equal bits of a bitmap

-- A single bit.
pub first_equal : (l : List Bool) (start : ℕ) → AreEqualBits l start 1
first_equal l start i h = let first : start + i ≡ start = omega arith in ap (λ k. get_or l k false) first

-- The bits of the next word that are equal to the first bit.
pub more_equal : (l : List Bool) (start count most equal word : ℕ) (b : Bool) → AreEqualBits l start count → get_or l start false ≡ b → word ≡ word_of (take most (drop (start + count) l)) → equal ≤ most →
    ((i : ℕ) → i < equal → is_set word i ≡ b) → AreEqualBits l start (count + equal)
more_equal l start count most equal word b before first is within same i h =
    ⊎_elim (λ (old : i < count). before i old)
    (λ (new : count ≤ i).
    let k : i ≡ count + (i - count) = omega arith in
    let place : start + count + (i - count) ≡ start + i = omega arith in
    let low : i - count < most = omega arith in
    ap (λ j. get_or l j false) (sym place) ∙ sym (get_or-drop (start + count) l (i - count) false) ∙ sym (get_or-take most (drop (start + count) l) (i - count) false low)
    ∙ sym (is_set_word (take most (drop (start + count) l)) (i - count)) ∙ ap (λ w. is_set w (i - count)) (sym is) ∙ same (i - count) (omega arith) ∙ sym first)
    (cases_lt i count)
  where
    is_set_word : (l : List Bool) (i : ℕ) → is_set (word_of l) i ≡ get_or l i false
    is_set_word l i = ap (λ d. d == 1) (bit_at_word_of l i) ∙ by (get_or l i false)
      where
        by : (b : Bool) → (cond b 1 0 == 1) ≡ b
        by true = refl
        by false = refl

-- The same for a word of the bytes that hold the bits.
pub bytes_equal : (l : List Bool) (bytes : List ℕ) (o n start count most equal word : ℕ) (b : Bool) → l ≡ bits_from bytes o n → start + count + most ≤ n → AreEqualBits l start count → get_or l start false ≡ b →
    word ≡ word_of (bits_from (drop ((o + start + count) / 8) bytes) ((o + start + count) % 8) most) → equal ≤ most → ((i : ℕ) → i < equal → is_set word i ≡ b) → AreEqualBits l start (count + equal)
bytes_equal l bytes o n start count most equal word b is inside before first read within same =
    let at = o + start + count in
    let place : at ≡ o + (start + count) = omega arith in
    let there = read
    ∙ ap word_of (from_byte bytes (at / 8) (at % 8) at most (omega arith) ∙ ap (λ k. bits_from bytes k most) place ∙ bits_from_part bytes o n (start + count) most inside)
    ∙ ap (λ x. word_of (take most (drop (start + count) x))) (sym is)
    in
    more_equal l start count most equal word b before first there within same
