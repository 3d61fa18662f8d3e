-- The false entries at an end of a list, found word by word.
use Rattle.std.proofs.Common.{◌≡◌, ℕ, zero, suc, ◌+◌, ◌-◌, ◌*◌, ◌^◌, ◌<◌, ◌≤◌, ◌≢◌, ◌∙◌, sym, refl, ap, ⊎_elim, arith, List, [], ◌∷◌, length, get_or, take, drop, reverse, Bool, true, false, cond}
use Rattle.std.specs.Int.{bit_at, w64, trailing_zeros as lowest_place}
use Rattle.std.proofs.lemmas.Bool.{cases_lt}
use Rattle.std.proofs.lemmas.Nat.Bits.{bit_at-trailing_zeros, bit_at_cat_high, bit_at-zero, bit_at_above}
use Rattle.std.proofs.lemmas.List.{length-take, length-drop, length-reverse, get_or-take, get_or-drop, get_or_past, get_or-reverse, take_all}
use Rattle.sel_bits.specs.Words.{word_of}
use Rattle.sel_bits.specs.Bits.{bits_from, leading_zeros, trailing_zeros}
use Rattle.sel_bits.proofs.{BitLists.length_bits_from, BitLists.bits_from_part, Padded.bit_at_word_of}

-- All entries of a range are false.
abbrev pub AreFalse : List Bool → ℕ → ℕ → Type 0
AreFalse l from end = (i : ℕ) → from ≤ i → i < end → get_or l i false ≡ false

-- False entries before a true one.
pub leading_found : (l : List Bool) (z : ℕ) → AreFalse l 0 z → get_or l z false ≡ true → leading_zeros l ≡ z
leading_found [] z low here = cc
leading_found (true ∷ l) zero low here = refl
leading_found (true ∷ l) (suc z) low here = let first : true ≡ false = low 0 (omega arith) (omega arith) in cc
leading_found (false ∷ l) zero low here = cc
leading_found (false ∷ l) (suc z) low here = grind (arith, (leading_found l z (λ i le lt. low (suc i) (omega arith) (omega arith)) here))

-- Only false entries.
pub leading_all : (l : List Bool) → AreFalse l 0 (length l) → leading_zeros l ≡ length l
leading_all [] low = refl
leading_all (true ∷ l) low = let first : true ≡ false = low 0 (omega arith) (omega arith) in cc
leading_all (false ∷ l) low = grind (arith, (leading_all l (λ i le lt. low (suc i) (omega arith) (omega arith))))

-- The same from an entry on.
leading_after : (l : List Bool) (start z : ℕ) → start ≤ z → AreFalse l start z → get_or l z false ≡ true → leading_zeros (drop start l) ≡ z - start
leading_after l start z after low here =
    let place : start + (z - start) ≡ z = omega arith in
    leading_found (drop start l) (z - start) (λ i le lt. get_or-drop start l i false ∙ low (start + i) (omega arith) (omega arith))
    (get_or-drop start l (z - start) false ∙ ap (λ j. get_or l j false) place ∙ here)

pub leading_rest : (l : List Bool) (start : ℕ) → start ≤ length l → AreFalse l start (length l) → leading_zeros (drop start l) ≡ length l - start
leading_rest l start within low = grind (arith, leading_all, get_or-drop, length-drop)

pub leading_le : (l : List Bool) → leading_zeros l ≤ length l
leading_le (false ∷ l) = omega (arith, leading_le l)
leading_le l = omega arith

-- The same at the other end.
pub trailing_found : (l : List Bool) (kept : ℕ) → kept < length l → get_or l kept false ≡ true → AreFalse l (kept + 1) (length l) → trailing_zeros l ≡ length l - (kept + 1)
trailing_found l kept lt here high =
    leading_found (reverse l) (length l - (kept + 1)) (λ i le below. get_or-reverse l i false (omega arith) ∙ high (length l - 1 - i) (omega arith) (omega arith))
    (let place : length l - 1 - (length l - (kept + 1)) ≡ kept = omega arith in
    get_or-reverse l (length l - (kept + 1)) false (omega arith) ∙ ap (λ j. get_or l j false) place ∙ here)

pub trailing_all : (l : List Bool) → AreFalse l 0 (length l) → trailing_zeros l ≡ length l
trailing_all l low = grind (arith, leading_all, length-reverse, get_or-reverse)

-- A boolean from its number.
is_false : (b : Bool) → ◌≡◌ {A = ℕ} (cond b 1 0) 0 → b ≡ false
is_false b h = grind arith

is_true : (b : Bool) → ◌≡◌ {A = ℕ} (cond b 1 0) 1 → b ≡ true
is_true b h = grind arith

-- From its highest set bit on, a word has only that bit.
from_top : (word h : ℕ) → 2 ^ h ≤ word → word < 2 * 2 ^ h → (i : ℕ) → h ≤ i → bit_at word i ≡ bit_at 1 (i - h)
from_top word h low high i le =
    let split : 1 * 2 ^ h + (word - 2 ^ h) ≡ word = omega arith in
    ap (λ w. bit_at w i) (sym split) ∙ bit_at_cat_high 1 h (word - 2 ^ h) i (omega arith) le

-- The word of a part of a list.
module _ (l : List Bool) (at len word : ℕ) (is : word ≡ word_of (take len (drop at l))) (within : at + len ≤ length l) where
  entry : (i : ℕ) → bit_at word i ≡ cond (get_or (take len (drop at l)) i false) 1 0
  entry i = ap (λ w. bit_at w i) is ∙ bit_at_word_of (take len (drop at l)) i

  in_part : (i : ℕ) → i < len → get_or (take len (drop at l)) i false ≡ get_or l (at + i) false
  in_part i lt = get_or-take len (drop at l) i false lt ∙ get_or-drop at l i false

  unset : (i : ℕ) → i < len → bit_at word i ≡ 0 → get_or l (at + i) false ≡ false
  unset i lt clear = sym (in_part i lt) ∙ is_false (get_or (take len (drop at l)) i false) (sym (entry i) ∙ clear)

  set_in_part : (i : ℕ) → bit_at word i ≡ 1 → get_or (take len (drop at l)) i false ≡ true
  set_in_part i one = is_true (get_or (take len (drop at l)) i false) (sym (entry i) ∙ one)

  set_below : (i : ℕ) → bit_at word i ≡ 1 → i < len
  set_below i one =
      ⊎_elim (λ (low : i < len). low)
      (λ (high : len ≤ i).
      let none : get_or (take len (drop at l)) i false ≡ false = get_or_past (take len (drop at l)) i false (omega (arith, length-take len (drop at l))) in
      let some = set_in_part i one in
      absurd (let same : true ≡ false = sym some ∙ none in cc))
      (cases_lt i len)

  set : (i : ℕ) → bit_at word i ≡ 1 → get_or l (at + i) false ≡ true
  set i one = sym (in_part i (set_below i one)) ∙ set_in_part i one

  -- A word without a set bit.
  pub none_set : word ≡ 0 → AreFalse l at (at + len)
  none_set clear i le lt =
      let place : at + (i - at) ≡ i = omega arith in
      ap (λ j. get_or l j false) (sym place) ∙ unset (i - at) (omega arith) (ap (λ w. bit_at w (i - at)) clear ∙ bit_at-zero (i - at))

  -- The first word with a set bit after false bits from `start` on.
  pub lowest_set : word ≢ 0 → word < 2 ^ 64 → (start : ℕ) → start ≤ at → AreFalse l start at → (at + lowest_place w64 word < length l) × (leading_zeros (drop start l) ≡ at - start + lowest_place w64 word)
  lowest_set some fits start after low =
      let t = lowest_place w64 word in
      let found = bit_at-trailing_zeros w64 word (omega arith) fits in
      let below : t < len = set_below t found.1 in
      let first : leading_zeros (drop start l) ≡ at + t - start =
      leading_after l start (at + t) (omega arith)
      (λ i le lt.
      ⊎_elim (λ (before : i < at). low i le before)
      (λ (after : at ≤ i).
      let place : at + (i - at) ≡ i = omega arith in
      ap (λ j. get_or l j false) (sym place) ∙ unset (i - at) (omega arith) (found.2 (i - at) (omega arith)))
      (cases_lt i at))
      (set t found.1) in
      (omega arith, omega (arith, first))

  -- The last word with a set bit; h is the position of the highest one.
  pub highest_set : (h : ℕ) → 2 ^ h ≤ word → word < 2 * 2 ^ h → AreFalse l (at + len) (length l) → (at + h < length l) × (trailing_zeros l ≡ length l - (at + h + 1))
  highest_set h low_end high_end high =
      let one : bit_at word h ≡ 1 = top in
      let below : h < len = set_below h one in
      (omega arith, trailing_found l (at + h) (omega arith) (set h one) after)
    where
      above : (i : ℕ) → h ≤ i → bit_at word i ≡ bit_at 1 (i - h)
      above i le = from_top word h low_end high_end i le

      top : bit_at word h ≡ 1
      top = let e : h - h ≡ 0 = omega arith in above h (omega arith) ∙ ap (bit_at 1) e

      after : AreFalse l (at + h + 1) (length l)
      after i le lt =
          ⊎_elim (λ (inside : i < at + len).
          let place : at + (i - at) ≡ i = omega arith in
          ap (λ j. get_or l j false) (sym place) ∙ unset (i - at) (omega arith) (above (i - at) (omega arith) ∙ bit_at_above 1 1 (i - at - h) (omega arith) (omega arith)))
          (λ (past : at + len ≤ i). high i past lt)
          (cases_lt i (at + len))

-- The remaining bits of a bitmap after some are removed at an end.
pub bits_from_dropped : (bytes : List ℕ) (o n k : ℕ) → k ≤ n → bits_from bytes (o + k) (n - k) ≡ drop k (bits_from bytes o n)
bits_from_dropped bytes o n k le =
    bits_from_part bytes o n k (n - k) (omega arith) ∙ take_all (n - k) (drop k (bits_from bytes o n)) (omega (arith, length-drop k (bits_from bytes o n), length_bits_from bytes o n))

pub bits_from_kept : (bytes : List ℕ) (o n k : ℕ) → bits_from bytes o (n - k) ≡ take (n - k) (bits_from bytes o n)
bits_from_kept bytes o n k = let e : o ≡ o + 0 = omega arith in ap (λ p. bits_from bytes p (n - k)) e ∙ bits_from_part bytes o n 0 (n - k) (omega arith)
