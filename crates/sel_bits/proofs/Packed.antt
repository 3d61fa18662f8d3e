-- Words and bytes that are made of booleans.
use Rattle.std.proofs.lemmas.Grind.{common_steps}
use Rattle.std.proofs.Common.{◌≡◌, ℕ, ◌+◌, ◌*◌, ◌%◌, ◌^◌, ◌<◌, ◌≤◌, ◌∙◌, refl, ap, arith, List, [], ◌∷◌, ◌++◌, length, get_or, take, drop, replicate, Bool, true, false, cond, append_assoc}
use Rattle.std.specs.Prelude.{◌==◌, not, count_by, if◌then◌else◌}
use Rattle.std.specs.Int.{from_bool}
use Rattle.std.proofs.Math.Nat.{pow-suc}
use Rattle.std.proofs.lemmas.Bool.Decides.{nat_tests}
use lib.Pow.{pow_mono}
use Rattle.std.proofs.lemmas.Nat.Bits.{bit_at_ones, bit_at-zero}
use Rattle.std.proofs.lemmas.List.{get_or_default, same_lists, length-take, length-replicate, get_or-replicate, take-append-drop}
use Rattle.std.proofs.lemmas.List.Sums.{sum_by-cons}
use Rattle.sel_bits.specs.Words.{is_set, bits, word_of}
use Rattle.sel_bits.specs.Bits.{bits_from}
use Rattle.sel_bits.proofs.{BitLists.length_bits_from, BitLists.get_bits_from, Packs.length_bits, Packs.get_bits, Padded.bit_at_word_of, Padded.word_of_lt}

test_of_cond : (b : Bool) → (cond b 1 0 == 1) ≡ b
test_of_cond b = grind (arith, nat_tests)

-- Bit i of a list's word is entry i.
pub is_set_word_of : (l : List Bool) (i : ℕ) → is_set (word_of l) i ≡ get_or l i false
is_set_word_of l i = ap (λ b. b == 1) (bit_at_word_of l i) ∙ test_of_cond (get_or l i false)

-- The bits of the word of a list are the list.
pub bits_word_of : (l : List Bool) → bits (length l) (word_of l) ≡ l
bits_word_of l = grind (arith, same_lists, length_bits, get_bits, is_set_word_of, get_or_default)

-- One more boolean as the highest bit.
pub word_of-push : (l : List Bool) (b : Bool) → word_of (l ++ b ∷ []) ≡ word_of l + from_bool b * 2 ^ length l
word_of-push (a ∷ l) true = omega (arith, word_of-push l true, pow-suc 2 (length l))
word_of-push (a ∷ l) false = omega (arith, word_of-push l false, pow-suc 2 (length l))
word_of-push l b = grind arith

-- The next boolean of a list, shifted to its position in the word.
pub word_of-next : (l : List Bool) (i word bit : ℕ) → i < length l → length l ≤ 64 → word ≡ word_of (take i l) → bit ≡ from_bool (get_or l i false)
    → word + bit * 2 ^ i % 2 ^ 64 ≡ word_of (take (i + 1) l)
word_of-next l i word bit inside short is bit-is = grind (arith, common_steps, word_of-push)

-- The word of a prefix of at most 64 booleans.
pub word_of-few : (l : List Bool) (i : ℕ) → i ≤ length l → length l ≤ 64 → word_of (take i l) < 2 ^ 64
word_of-few l i inside short = grind (arith, length-take, word_of_lt, pow_mono)

-- A byte of eight equal bits.
byte_bit : (value : Bool) (j : ℕ) → j < 8 → is_set (if value then 255 else 0) j ≡ value
byte_bit true j lt = ap (λ x. x == 1) (bit_at_ones 8 j lt)
byte_bit false j lt = ap (λ x. x == 1) (bit_at-zero j)

-- Bytes of equal bits.
pub equal_bits : (value : Bool) (k n : ℕ) → n ≤ 8 * k → bits_from (replicate k (if value then 255 else 0)) 0 n ≡ replicate n value
equal_bits value k n enough = grind (arith, same_lists, length_bits_from, length-replicate, get_bits_from, get_or-replicate, byte_bit)

-- Each entry is true or false.
pub counts : (bs : List Bool) → count_by (λ b. b) bs + count_by not bs ≡ length bs
counts [] = refl
counts (true ∷ bs) = omega (arith, counts bs, sum_by-cons (λ b. cond b 1 0) true bs, sum_by-cons (λ b. cond (not b) 1 0) true bs)
counts (false ∷ bs) = omega (arith, counts bs, sum_by-cons (λ b. cond b 1 0) false bs, sum_by-cons (λ b. cond (not b) 1 0) false bs)

-- One more block of a list.
pub block_packed : (packed block rest values : List Bool) (n : ℕ) → packed ++ rest ≡ values → block ≡ take n rest → (packed ++ block) ++ drop n rest ≡ values
block_packed packed block rest values n before is = grind (arith, append_assoc, take-append-drop)
