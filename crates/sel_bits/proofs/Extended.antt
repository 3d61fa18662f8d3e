-- Bits that are appended many at a time, and counts of the set bits of words.
use Rattle.std.proofs.Common.{◌≡◌, ℕ, zero, suc, ◌+◌, ◌-◌, ◌*◌, ◌%◌, ◌^◌, ◌≤◌, ◌∙◌, sym, refl, ap, arith, List, [], ◌∷◌, ◌++◌, length, take, drop, map, replicate, Bool, true, false, cond, append_assoc, length-drop}
use Rattle.std.specs.Prelude.{count_ones}
use Rattle.std.specs.Simd.Lanes.{mask_l}
use Rattle.std.proofs.Math.Nat.{pow-suc}
use Rattle.std.proofs.Math.Seq.{take-add}
use Rattle.std.proofs.Math.Pow.{not_mod}
use Rattle.std.proofs.lemmas.Nat.{pow_pos}
use Rattle.std.proofs.lemmas.List.{length-replicate, replicate-append-replicate, drop-drop}
use Rattle.std.proofs.lemmas.List.Sums.{sum_by-append}
use Rattle.std.proofs.lemmas.Simd.{ones-mask_l}
use Rattle.sel_bits.specs.Bits.{count_true}
use Rattle.sel_bits.specs.Words.{bits, word_of}
use Rattle.sel_bits.proofs.{Combining.packed_more, Packed.bits_word_of}

-- The word of bits that are all false, and of bits that are all true.
pub word_of_false : (n : ℕ) → word_of (replicate n false) ≡ 0
word_of_false zero = refl
word_of_false (suc n) = omega (arith, word_of_false n)

word_of-true : (n : ℕ) → word_of (replicate n true) + 1 ≡ 2 ^ n
word_of-true zero = refl
word_of-true (suc n) = omega (arith, word_of-true n, pow-suc 2 n)

pub all_ones : (n : ℕ) → n ≤ 64 → 18446744073709551615 % 2 ^ n ≡ word_of (replicate n true)
all_ones n few =
    let e : 64 - n + n ≡ 64 = omega arith in
    let max : (2 ^ (64 - n + n) - 1) - 0 ≡ 18446744073709551615 = ap (λ k. (2 ^ k - 1) - 0) e in
    ap (λ w. w % 2 ^ n) (sym max) ∙ not_mod (64 - n) n (pow_pos n) ∙ omega (arith, word_of-true n)

-- One more block of a part of a list.
pub block_more : (old so_far new xs : List Bool) (start len at count : ℕ) → start + len ≤ length xs → at + count ≤ len →
    so_far ≡ old ++ take at (drop start xs) → new ≡ so_far ++ bits count (word_of (take count (drop (start + at) xs))) → new ≡ old ++ take (at + count) (drop start xs)
block_more old so_far new xs start len at count inside within before is =
    let part = drop start xs in
    let fits : at + count ≤ length part = simp length-drop (omega arith) in
    is
    ∙ ap (λ l. so_far ++ bits count (word_of (take count l))) (sym (drop-drop at start xs))
    ∙ ap (λ l. l ++ bits count (word_of (take count (drop at part)))) before
    ∙ append_assoc old (take at part) (bits count (word_of (take count (drop at part))))
    ∙ ap (λ l. old ++ l) (packed_more part at count fits)

-- One more block of equal bits.
pub copies_more : (old so_far new : List Bool) (at count : ℕ) (b : Bool) → so_far ≡ old ++ replicate at b → new ≡ so_far ++ bits count (word_of (replicate count b)) → new ≡ old ++ replicate (at + count) b
copies_more old so_far new at count b before is =
    let block : bits count (word_of (replicate count b)) ≡ replicate count b = ap (λ n. bits n (word_of (replicate count b))) (sym (length-replicate count b)) ∙ bits_word_of (replicate count b) in
    is
    ∙ ap (λ l. l ++ bits count (word_of (replicate count b))) before
    ∙ ap (λ l. (old ++ replicate at b) ++ l) block
    ∙ append_assoc old (replicate at b) (replicate count b)
    ∙ ap (λ l. old ++ l) (replicate-append-replicate at count b)

-- The word of a list has as many set bits as the list has true entries.
ones_word : (xs : List Bool) → count_ones (word_of xs) ≡ count_true xs
ones_word xs = ap count_ones (same xs) ∙ ones-mask_l (λ b. b) xs
  where
    same : (xs : List Bool) → word_of xs ≡ mask_l (map (λ b. b) xs)
    same [] = refl
    same (b ∷ xs) = ap (λ n. cond b 1 0 + 2 * n) (same xs)

-- The count after one more block.
pub ones_more : (xs : List Bool) (at len total : ℕ) → total ≡ count_true (take at xs) → total + count_ones (word_of (take len (drop at xs))) ≡ count_true (take (at + len) xs)
ones_more xs at len total is = grind (arith, ones_word, sum_by-append, take-add)
