-- The bits of the word of a list.
use Rattle.std.proofs.lemmas.Grind.{common_steps}
use Rattle.sel_filter.proofs.Common.{◌≡◌, ℕ, zero, suc, ◌+◌, ◌-◌, ◌*◌, ◌/◌, ◌^◌, ◌<◌, ◌≤◌, ◌∙◌, sym, ap, arith, List, [], ◌∷◌, ◌++◌, length, replicate, Bool}
use Rattle.sel_filter.proofs.Common.{true, false, count_ones, ◌==◌, bit_at, pow-suc, bits, word_of, count_true, bits_suc}
use Rattle.sel_filter.proofs.Common.{bits_zero, bits_split, length_bits, word_of_lt, append-nil, select}
use Rattle.std.proofs.Math.Nat.{div-eq_of_lt}
use Rattle.std.specs.Prelude.{◌%◌, bit_or}
use Rattle.std.proofs.lemmas.Nat.{or_comm, or_shifted, shl_whole}
use lib.Count.{ones_step}
use Rattle.sel_bits.proofs.Packed.{bits_word_of as listed}
use Rattle.sel_filter.proofs.Selects.{select_none, all_kept}

pub bits_of_zero : (n : ℕ) → bits n 0 ≡ replicate n false
bits_of_zero zero = bits_zero 0
bits_of_zero (suc n) = bits_suc n 0 ∙ ap (λ l. false ∷ l) (bits_of_zero n)

-- A word of n + 1 bits, from its lowest bit and half the word.
pub bits_first : (n w b half : ℕ) → bit_at w 0 ≡ b → w / 2 ≡ half → bits (suc n) w ≡ (b == 1) ∷ bits n half
bits_first n w b half lowest rest = bits_suc n w ∙ ap (λ x. (x == 1) ∷ bits n (w / 2)) lowest ∙ ap (λ h. (b == 1) ∷ bits n h) rest

-- The bits of the word of a list are the list, followed by false bits.
pub bits_word_of : (l : List Bool) (n : ℕ) → length l ≤ n → bits n (word_of l) ≡ l ++ replicate (n - length l) false
bits_word_of l n le =
    let e : n ≡ length l + (n - length l) = omega arith in
    ap (λ k. bits k (word_of l)) e
    ∙ bits_split (length l) (n - length l) (word_of l)
    ∙ (λ i. listed l i ++ (ap (bits (n - length l)) (div-eq_of_lt (word_of_lt l)) ∙ bits_of_zero (n - length l)) i)

-- Without a set bit, nothing is selected.
pub none_more : {A : Type 0} → (xs kept : List A) (n m : ℕ) → m ≡ 0 → kept ≡ kept ++ select xs (bits n m)
none_more xs kept n m none = grind (arith, append-nil, bits_of_zero, select_none)

-- The number of set bits of a word.
pub ones_is : (n m : ℕ) → m < 2 ^ n → count_ones m ≡ count_true (bits n m)
unfolding lib.Count.ones
ones_is zero m fits = let none : m ≡ 0 = omega arith in ap count_ones none ∙ sym (ap count_true (bits_zero m))
ones_is (suc n) m fits = grind (arith, common_steps, ones_step, bits_suc, (ones_is n (m / 2) (omega (arith, pow-suc 2 n))))

-- The number of set bits of the word of a list.
pub count_word : (l : List Bool) → count_ones (word_of l) ≡ count_true l
count_word l = ones_is (length l) (word_of l) (word_of_lt l) ∙ ap count_true (listed l)

-- Each element is selected if all bits are set.
pub all_set : {A : Type 0} → (xs : List A) (n m : ℕ) → length xs ≡ n → m < 2 ^ n → count_ones m ≡ n → select xs (bits n m) ≡ xs
all_set xs n m long fits all = all_kept xs (bits n m) (long ∙ sym (length_bits n m)) (sym (ones_is n m fits) ∙ all ∙ sym (length_bits n m))

-- The word of concatenated lists of bits.
pub word_of-append : (a b : List Bool) → word_of (a ++ b) ≡ word_of b * 2 ^ length a + word_of a
word_of-append [] b = omega arith
word_of-append (true ∷ a) b = omega (arith, word_of-append a b, ap (λ p. word_of b * p) (pow-suc 2 (length a)))
word_of-append (false ∷ a) b = omega (arith, word_of-append a b, ap (λ p. word_of b * p) (pow-suc 2 (length a)))

-- More bits above a packed word.
pub word_joined : (front more : List Bool) (packed place word : ℕ) → packed ≡ word_of front → place ≡ length front → word ≡ word_of more → place + length more ≤ 64
    → bit_or packed (word * 2 ^ place % 2 ^ 64) ≡ word_of (front ++ more)
word_joined front more packed place word is long word-is few =
    ap (bit_or packed) (shl_whole word (length more) place 64 (rw word-is (word_of_lt more)) (omega arith))
    ∙ or_comm packed (word * 2 ^ place)
    ∙ or_shifted word place packed (rw (is, long) (word_of_lt front))
    ∙ (λ i. word-is i * 2 ^ long i + is i)
    ∙ sym (word_of-append front more)
