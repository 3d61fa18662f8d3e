-- The values of a block that the bits of a word keep.
use Rattle.std.proofs.Common.{rules, zero-add, drop-cons}
use Rattle.sel_filter.proofs.Common.{◌≡◌, ℕ, zero, suc, ◌+◌, ◌-◌, ◌*◌, ◌/◌, ◌%◌, ◌^◌, ◌<◌, ◌≤◌, ◌∙◌, sym, refl, ap, arith, List, [], ◌∷◌, ◌++◌, length, take}
use Rattle.sel_filter.proofs.Common.{drop, get_or, Bool, append-nil, append_assoc, length-append, bit_and, count_ones, ◌==◌, bit_at, trailing_zeros, w64}
use Rattle.sel_filter.proofs.Common.{and_le_l, pow_mono, take-add, shr_and_one, length-take, length-drop, take_all, bits_from, bits, word_of, bits_suc}
use Rattle.sel_filter.proofs.Common.{bits_zero, length_bits_from, length_bits, bits_split, word_of_lt, bit_at_shr, select, nil_from_length}
use Rattle.std.proofs.lemmas.List.{take_at, drop-drop}
use Rattle.sel_bits.proofs.Packed.{bits_word_of}
use Rattle.sel_filter.proofs.{Firsts.first_kept, Firsts.first_within, Scalars.bits_part, WordLists.all_set, WordLists.none_more, WordLists.ones_is}
use Rattle.sel_filter.proofs.Selects.{few_kept, length-select, select-append, select_end, select_more}

-- The number of kept values is the number of set bits.
pub kept_count : {A : Type 0} → (xs : List A) (m : ℕ) → m < 2 ^ length xs → length (select xs (bits (length xs) m)) ≡ count_ones m
kept_count xs m fits = length-select xs (bits (length xs) m) (sym (length_bits (length xs) m)) ∙ sym (ones_is (length xs) m fits)

small : (n m : ℕ) → m < 2 ^ n → n ≤ 64 → m < 2 ^ 64
small n m fits le = omega (arith, fits, pow_mono {i = n} {j = 64} le)

pub few_within : {A : Type 0} → (xs : List A) (m : ℕ) → 0 < m → m < 2 ^ length xs → length xs ≤ 64 → trailing_zeros w64 m < length xs
few_within xs m some fits le = first_within (length xs) m some fits (small (length xs) m fits le)

-- One more set bit is processed.
pub few_step : {A : Type 0} → (xs kept all : List A) (m : ℕ) (x : A) → 0 < m → m < 2 ^ length xs → length xs ≤ 64 → x ≡ get_or xs (trailing_zeros w64 m) x
    → kept ++ select xs (bits (length xs) m) ≡ all → (kept ++ x ∷ []) ++ select xs (bits (length xs) (bit_and m (m - 1))) ≡ all
few_step xs kept all m x some fits le is before = search (rules, append_assoc, first_kept)

-- One value fewer is left.
pub few_left : {A : Type 0} → (xs : List A) (m : ℕ) → 0 < m → m < 2 ^ length xs → length xs ≤ 64 → length (select xs (bits (length xs) (bit_and m (m - 1)))) + 1 ≡ length (select xs (bits (length xs) m))
few_left [] m some fits le = absurd (omega arith)
few_left (x ∷ xs) m some fits le = omega (arith, ap length (first_kept (x ∷ xs) x 64 m some fits (small (length (x ∷ xs)) m fits le)))

-- The items so far, of which the values at the remaining bits are missing. If no bit remains, other
-- items may follow.
pub record FewSoFar {A : Type 0} (xs : List A) (rest capacity : ℕ) (kept all : List A) : Type 0 where
  pub some : 0 < rest → (kept ++ select xs (bits (length xs) rest) ≡ all) × (length kept + length (select xs (bits (length xs) rest)) < capacity)
  pub none : rest ≡ 0 → take (length all) kept ≡ all

whole : {A : Type 0} → (xs kept all : List A) (m : ℕ) → m ≡ 0 → kept ++ select xs (bits (length xs) m) ≡ all → take (length all) kept ≡ all
whole xs kept all m none is = grind (arith, none_more, take_all)

pub few_begin : {A : Type 0} → (xs kept : List A) (m capacity : ℕ) → length kept + length (select xs (bits (length xs) m)) < capacity → FewSoFar xs m capacity kept (kept ++ select xs (bits (length xs) m))
few_begin xs kept m capacity room = grind (arith, whole)

-- The next two set bits are processed, or the next one and another value.
pub few_pair : {A : Type 0} → (xs kept new all : List A) (rest capacity : ℕ) (x y : A) → 0 < rest → rest < 2 ^ 64 → length xs ≡ 64 → x ≡ get_or xs (trailing_zeros w64 rest) x → y ≡ get_or xs (trailing_zeros w64 (bit_and rest (rest - 1)) % 64) y
    → new ≡ (kept ++ x ∷ []) ++ y ∷ [] → FewSoFar xs rest capacity kept all → FewSoFar xs (bit_and (bit_and rest (rest - 1)) ((bit_and rest (rest - 1) + 18446744073709551615) % 2 ^ 64)) capacity new all
few_pair {A} xs kept new all rest capacity x y some fits long at-x at-y pushed was = by (bit_and rest (rest - 1)) (omega (arith, and_le_l rest (rest - 1))) at-y one
  where
    few : length xs ≤ 64
    few = omega (arith, long)

    low : rest < 2 ^ length xs
    low = rw long fits

    one : (kept ++ x ∷ []) ++ select xs (bits (length xs) (bit_and rest (rest - 1))) ≡ all
    one = few_step xs kept all rest x some low few at-x (was.some some).0

    by : (next : ℕ) → next < 2 ^ 64 → y ≡ get_or xs (trailing_zeros w64 next % 64) y → (kept ++ x ∷ []) ++ select xs (bits (length xs) next) ≡ all →
        FewSoFar xs (bit_and next ((next + 18446744073709551615) % 2 ^ 64)) capacity new all
    by zero below at is =
        let end : bit_and 0 ((0 + 18446744073709551615) % 2 ^ 64) ≡ 0 = omega (arith, and_le_l 0 ((0 + 18446744073709551615) % 2 ^ 64)) in
        let same : kept ++ x ∷ [] ≡ all = none_more xs (kept ++ x ∷ []) (length xs) 0 refl ∙ is in
        record {
          some = λ h. absurd (omega (arith, h, end));
          none = λ h. ap (take (length all)) (pushed ∙ ap (λ l. l ++ y ∷ []) same) ∙ take_at all (y ∷ []) (length all) refl;
        }
    by (suc next) below at is =
        let low : suc next < 2 ^ length xs = rw long below in
        let inside : trailing_zeros w64 (suc next) % 64 ≡ trailing_zeros w64 (suc next) = omega (arith, few_within xs (suc next) (omega arith) low few, long) in
        let less : (suc next + 18446744073709551615) % 2 ^ 64 ≡ suc next - 1 = omega (arith, below) in
        let two = few_step xs (kept ++ x ∷ []) all (suc next) y (omega arith) low few (at ∙ ap (λ t. get_or xs t y) inside) is in
        let last = bit_and (suc next) ((suc next + 18446744073709551615) % 2 ^ 64) in
        let both : new ++ select xs (bits (length xs) last) ≡ all = (λ i. pushed i ++ select xs (bits (length xs) (bit_and (suc next) (less i)))) ∙ two in
        record {
          some = λ h. (both, omega (arith, (was.some some).1, ap length (was.some some).0, ap length both, length-append new (select xs (bits (length xs) last)), length-append kept (select xs (bits (length xs) rest))));
          none = λ h. whole xs new all last h both;
        }

-- ---- the values below a position

-- The kept values below position i follow the initial items.
abbrev pub IsDense : {A : Type 0} → List A → ℕ → List A → List A → ℕ → Type 0
IsDense xs m old now i = now ≡ old ++ select (take i xs) (bits i m)

pub dense_begin : {A : Type 0} → (xs : List A) (m : ℕ) (old : List A) → IsDense xs m old old 0
dense_begin xs m old = sym (append-nil old) ∙ ap (λ l. old ++ l) (sym (nil_from_length (select (take 0 xs) (bits 0 m)) (omega (arith, few_kept (take 0 xs) (bits 0 m)))))

-- The next positions, up to `end`.
pub dense_more : {A : Type 0} → (xs : List A) (m : ℕ) (old now next : List A) (count i w end : ℕ) → end ≤ length xs → w ≡ m / 2 ^ i → end ≡ i + count
    → next ≡ now ++ select (take (end - i) (drop i xs)) (bits count w) → IsDense xs m old now i → IsDense xs m old next end
dense_more xs m old now next count i w end within is e pushed was = grind (arith, append_assoc, select-append, length-take, length_bits, take-add, bits_split)

-- One more position.
pub dense_next : {A : Type 0} → (xs : List A) (m : ℕ) (old now next : List A) (i end : ℕ) (x : A) → i < length xs → x ≡ get_or xs i x → end ≡ i + 1
    → next ≡ now ++ select (x ∷ []) ((bit_and (m / 2 ^ i) 1 == 1) ∷ []) → IsDense xs m old now i → IsDense xs m old next end
dense_next xs m old now next i end x lt is e pushed was =
    let one : end - i ≡ 1 = omega (arith, e) in
    let bit = bit_at_shr m i 0 ∙ ap (bit_at m) (zero-add i) ∙ sym (shr_and_one m i) in
    dense_more xs m old now next 1 i (m / 2 ^ i) end (omega (arith, lt, e)) refl e
    (pushed ∙ ap (λ l. now ++ l) (sym ((λ j. select ((ap (λ k. take k (drop i xs)) one ∙ ap (take 1) (drop-cons xs i x lt) ∙ ap (λ y. y ∷ []) (sym is)) j) (bits_suc 0 (m / 2 ^ i) j))
    ∙ (λ j. select (x ∷ []) ((bit j == 1) ∷ bits_zero (m / 2 ^ i / 2) j))))) was

-- At most as many values are added as there are positions.
pub kept_grows : {A : Type 0} → (old xs : List A) (k : ℕ) (bs : List Bool) → length (old ++ select (take k xs) bs) ≤ length old + k
kept_grows old xs k bs = omega (arith, length-append old (select (take k xs) bs), few_kept (take k xs) bs, length-take k xs)

-- ---- a part of the rows of a mask, as a word

module _ {A : Type 0} (xs : List A) (ms : List Bool) (bytes : List ℕ) (s n : ℕ) (long : n ≡ length xs) (ms_is : ms ≡ bits_from bytes s n)
    (k at count word : ℕ) (here : at ≡ 8 * k) (within : at + count ≤ n) (is : word ≡ word_of (bits_from (drop k bytes) s count)) where
  part : List Bool
  part = take count (drop at ms)

  same : length xs ≡ length ms
  same = sym (ap length ms_is ∙ length_bits_from bytes s n ∙ long)

  word_is : word ≡ word_of part
  unfolding part
  word_is = is ∙ ap word_of (bits_part bytes s n k at count here within) ∙ ap (λ l. word_of (take count (drop at l))) (sym ms_is)

  long_part : length part ≡ count
  unfolding part
  long_part = omega (arith, within, same, long, length-take count (drop at ms), length-drop at ms)

  pub long_block : length (take (at + count - at) (drop at xs)) ≡ count
  long_block = omega (arith, within, long, length-take (at + count - at) (drop at xs), length-drop at xs)

  pub part_fits : word < 2 ^ length (take (at + count - at) (drop at xs))
  part_fits = grind (arith, long_block, long_part, word_is, word_of_lt)

  -- The kept values of the part follow those before it.
  pub part_kept : (front old new : List A) (end m : ℕ) → at + count ≡ end → m ≡ count → old ≡ front ++ select (take at xs) (take at ms) → new ≡ old ++ select (take (at + count - at) (drop at xs)) (bits m word)
      → new ≡ front ++ select (take end xs) (take end ms)
  unfolding part
  part_kept front old new end m to wide was appended = grind (arith, long_part, select_more, same, word_is, bits_word_of)

  -- If all bits are set, the values from position `f` on follow, without a gap.
  pub full_kept : (front old : List A) (f : ℕ) → f ≤ at → word < 2 ^ count → count_ones word ≡ count → old ++ take (at - f) (drop f xs) ≡ front ++ select (take at xs) (take at ms)
      → old ++ take (at + count - f) (drop f xs) ≡ front ++ select (take (at + count) xs) (take (at + count) ms)
  full_kept front old f before fits full was =
      let longer : at + count - f ≡ at - f + count = omega (arith, before) in
      let rest : count ≡ at + count - at = omega arith in
      let place : f + (at - f) ≡ at = omega (arith, before) in
      let more : take (at + count - f) (drop f xs) ≡ take (at - f) (drop f xs) ++ take (at + count - at) (drop at xs) =
      ap (λ k. take k (drop f xs)) longer ∙ take-add (at - f) count (drop f xs) ∙ (λ i. take (at - f) (drop f xs) ++ take (rest i) ((drop-drop (at - f) f xs ∙ ap (λ k. drop k xs) place) i))
      in
      part_kept front _ _ (at + count) count refl refl was
      (ap (λ l. old ++ l) more ∙ sym (append_assoc old (take (at - f) (drop f xs)) (take (at + count - at) (drop at xs)))
      ∙ ap (λ l. (old ++ take (at - f) (drop f xs)) ++ l) (sym (all_set (take (at + count - at) (drop at xs)) count word long_block fits full)))

-- The values after the last whole block of 64 values.
module _ {A : Type 0} (xs : List A) (ms : List Bool) (bytes : List ℕ) (s n : ℕ) (long : n ≡ length xs) (ms_is : ms ≡ bits_from bytes s n)
    (word : ℕ) (is : word ≡ word_of (bits_from (drop (n / 64 * 8) bytes) s (n - n / 64 * 64))) where
  abbrev done : ℕ
  done = n / 64 * 64

  pub last_fits : word < 2 ^ length (take (done + (n - done) - done) (drop done xs))
  last_fits = part_fits xs ms bytes s n long ms_is (n / 64 * 8) done (n - done) word (omega arith) (omega arith) is

  pub last_kept : (front old new : List A) (b : ℕ) → 64 * b ≡ done → old ≡ front ++ select (take (64 * b) xs) (take (64 * b) ms)
      → new ≡ old ++ select (take (done + (n - done) - done) (drop done xs)) (bits (length (take (done + (n - done) - done) (drop done xs))) word) → new ≡ front ++ select xs ms
  last_kept front old new b end was appended =
      let wide = long_block xs ms bytes s n long ms_is (n / 64 * 8) done (n - done) word (omega arith) (omega arith) is in
      part_kept xs ms bytes s n long ms_is (n / 64 * 8) done (n - done) word (omega arith) (omega arith) is front old new n _ (omega arith) wide (rw end at was) appended
      ∙ ap (λ l. front ++ l) (select_end xs ms n (sym long ∙ sym (length_bits_from bytes s n) ∙ sym (ap length ms_is)) (omega (arith, ap length ms_is, length_bits_from bytes s n)))

pub ruleset kept_steps = (kept_grows, few_within, few_left, few_step, few_kept, kept_count, none_more, all_set, and_le_l)
