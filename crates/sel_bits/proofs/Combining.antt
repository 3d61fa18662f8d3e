-- Functions applied bit by bit to lists and to words.
use Rattle.std.proofs.lemmas.Grind.{common_steps}
use Rattle.std.proofs.Common.{◌≡◌, ℕ, suc, ◌+◌, ◌%◌, ◌^◌, ◌<◌, ◌≤◌, ◌∙◌, sym, refl, ap, subst, arith, List, [], ◌∷◌, ◌++◌, length, get_or, take, drop, map, Bool, false, cond, not, ◌&&◌, ◌||◌}
use Rattle.std.specs.Prelude.{bit_and, bit_or, if◌then◌else◌}
use Rattle.std.specs.Int.{bit_at, bit_not, w64}
use Rattle.std.proofs.Math.Seq.{take-add}
use Rattle.std.proofs.lemmas.Bool.Decides.{nat_tests}
use Rattle.std.proofs.lemmas.Nat.{mod_below, pow_pos}
use Rattle.std.proofs.lemmas.Nat.Bits.{bit_at-lt, bit_at_and, bit_at_or, bit_at_not}
use Rattle.std.proofs.lemmas.List.{get_or-take, get_or-drop}
use Rattle.sel_bits.specs.Bits.{zip_with, zip_three}
use Rattle.sel_bits.specs.Choose.{choose}
use Rattle.sel_bits.specs.Words.{is_set, bits, word_of}
use Rattle.sel_bits.proofs.{Lists.cond_of_bit, Padded.word_of_lt, Packed.bits_word_of, Packed.is_set_word_of, Shifts.bit_at_mod}
use Rattle.sel_bits.proofs.WordsOf.{length_part, is_word_of}

pub length-zip_three : {A B C D : Type 0} (f : A → B → C → D) (xs : List A) (ys : List B) (zs : List C) → length xs ≡ length ys → length xs ≡ length zs → length (zip_three f xs ys zs) ≡ length xs
length-zip_three f (x ∷ xs) (y ∷ ys) (z ∷ zs) p q = omega (arith, length-zip_three f xs ys zs (omega arith) (omega arith))
length-zip_three f xs ys zs p q = cc

get_or-zip_three : {A B C D : Type 0} (f : A → B → C → D) (xs : List A) (ys : List B) (zs : List C) (i : ℕ) (a : A) (b : B) (c : C) (d : D) → length xs ≡ length ys → length xs ≡ length zs → i < length xs
    → get_or (zip_three f xs ys zs) i d ≡ f (get_or xs i a) (get_or ys i b) (get_or zs i c)
get_or-zip_three f (x ∷ xs) (y ∷ ys) (z ∷ zs) (suc i) a b c d p q lt = get_or-zip_three f xs ys zs i a b c d (omega arith) (omega arith) (omega arith)
get_or-zip_three f xs ys zs i a b c d p q lt = grind arith

-- Three lists where f ignores the third, or all but the first.
of_two : {A B C : Type 0} (f : A → B → C) (xs : List A) (ys : List B) → zip_three (λ x y _. f x y) xs ys ys ≡ zip_with f xs ys
of_two f (x ∷ xs) (y ∷ ys) = ap (λ l. f x y ∷ l) (of_two f xs ys)
of_two f xs ys = cc

of_one : {A B : Type 0} (f : A → B) (xs : List A) → zip_three (λ x _ _. f x) xs xs xs ≡ map f xs
of_one f [] = refl
of_one f (x ∷ xs) = ap (λ l. f x ∷ l) (of_one f xs)

-- The operations on bitmaps.
pub of_and : (xs ys : List Bool) → zip_three (λ x y _. x && y) xs ys ys ≡ zip_with (λ x y. x && y) xs ys
of_and xs ys = of_two (λ x y. x && y) xs ys

pub of_or : (xs ys : List Bool) → zip_three (λ x y _. x || y) xs ys ys ≡ zip_with (λ x y. x || y) xs ys
of_or xs ys = of_two (λ x y. x || y) xs ys

pub of_and_not : (xs ys : List Bool) → zip_three (λ x y _. x && not y) xs ys ys ≡ zip_with (λ x y. x && not y) xs ys
of_and_not xs ys = of_two (λ x y. x && not y) xs ys

pub of_or_not : (xs ys : List Bool) → zip_three (λ x y _. x || not y) xs ys ys ≡ zip_with (λ x y. x || not y) xs ys
of_or_not xs ys = of_two (λ x y. x || not y) xs ys

pub of_not : (xs : List Bool) → zip_three (λ x _ _. not x) xs xs xs ≡ map not xs
of_not xs = of_one not xs

pub of_choice : (ms ts fs : List Bool) → zip_three (λ x y z. if x then y else z) ms ts fs ≡ choose ms ts fs
of_choice (m ∷ ms) (t ∷ ts) (f ∷ fs) = ap (λ l. (if m then t else f) ∷ l) (of_choice ms ts fs)
of_choice ms ts fs = cc

-- Bits of words.
number_of_is_set : (w i : ℕ) → bit_at w i ≡ cond (is_set w i) 1 0
number_of_is_set w i = sym (cond_of_bit (bit_at w i) (bit_at-lt w i))

pub set_and : (a b i : ℕ) → is_set (bit_and a b) i ≡ (is_set a i && is_set b i)
set_and a b i = grind (arith, nat_tests, bit_at_and, bit_at-lt a i, bit_at-lt b i)

pub set_or : (a b i : ℕ) → is_set (bit_or a b) i ≡ (is_set a i || is_set b i)
set_or a b i = grind (arith, nat_tests, bit_at_or, bit_at-lt a i, bit_at-lt b i)

pub set_not : (a i : ℕ) → a < 2 ^ 64 → i < 64 → is_set (bit_not w64 a) i ≡ not (is_set a i)
set_not a i fits lt = grind (arith, nat_tests, bit_at_not w64 a i fits lt, bit_at-lt a i)

pub set_and_not : (a b i : ℕ) → b < 2 ^ 64 → i < 64 → is_set (bit_and a (bit_not w64 b)) i ≡ (is_set a i && not (is_set b i))
set_and_not a b i fits lt = set_and a (bit_not w64 b) i ∙ ap (λ t. is_set a i && t) (set_not b i fits lt)

pub set_or_not : (a b i : ℕ) → b < 2 ^ 64 → i < 64 → is_set (bit_or a (bit_not w64 b)) i ≡ (is_set a i || not (is_set b i))
set_or_not a b i fits lt = set_or a (bit_not w64 b) i ∙ ap (λ t. is_set a i || t) (set_not b i fits lt)

pub set_choice : (m t f i : ℕ) → m < 2 ^ 64 → i < 64 → is_set (bit_or (bit_and t m) (bit_and f (bit_not w64 m))) i ≡ (if is_set m i then is_set t i else is_set f i)
set_choice m t f i fits lt = grind (arith, set_or, set_and, set_and_not)

-- Bit i of w is f of bit i of three words.
abbrev pub IsMade : (Bool → Bool → Bool → Bool) → ℕ → ℕ → ℕ → ℕ → Type 0
IsMade f x y z w = (i : ℕ) → i < 64 → is_set w i ≡ f (is_set x i) (is_set y i) (is_set z i)

-- The words of one part of three lists give the word of the same part of the combined list.
pub masked_made : (f : Bool → Bool → Bool → Bool) (xs ys zs : List Bool) (at len x y z w : ℕ) → length xs ≡ length ys → length xs ≡ length zs → at + len ≤ length xs → len ≤ 64
    → x ≡ word_of (take len (drop at xs)) → y ≡ word_of (take len (drop at ys)) → z ≡ word_of (take len (drop at zs)) → IsMade f x y z w
    → w % 2 ^ len ≡ word_of (take len (drop at (zip_three f xs ys zs)))
masked_made f xs ys zs at len x y z w second third within few x_is y_is z_is made =
    is_word_of (take len (drop at all)) (w % 2 ^ len) len (length_part at len all (omega (arith, length-zip_three f xs ys zs second third))) (mod_below w (2 ^ len) (pow_pos len)) bit
  where
    all : List Bool
    all = zip_three f xs ys zs

    read : (l : List Bool) (v : ℕ) → v ≡ word_of (take len (drop at l)) → (i : ℕ) → i < len → is_set v i ≡ get_or l (at + i) false
    read l v is i lt = ap (λ u. is_set u i) is ∙ is_set_word_of (take len (drop at l)) i ∙ get_or-take len (drop at l) i false lt ∙ get_or-drop at l i false

    bit : (i : ℕ) → i < len → bit_at (w % 2 ^ len) i ≡ cond (get_or (take len (drop at all)) i false) 1 0
    bit i lt =
        bit_at_mod w len i lt
        ∙ number_of_is_set w i
        ∙ ap (λ b. cond b 1 0)
        (made i (omega arith)
        ∙ (λ j. f (read xs x x_is i lt j) (read ys y y_is i lt j) (read zs z z_is i lt j))
        ∙ sym (get_or-take len (drop at all) i false lt ∙ get_or-drop at all i false ∙ get_or-zip_three f xs ys zs (at + i) false false false false second third (omega arith)))

-- The first bits of a list, followed by the next ones.
pub packed_more : (l : List Bool) (at len : ℕ) → at + len ≤ length l → take at l ++ bits len (word_of (take len (drop at l))) ≡ take (at + len) l
packed_more l at len within = grind (arith, common_steps, length_part, bits_word_of, take-add)

-- The word of a part fits its number of bits.
pub part_fits : (l : List Bool) (at len : ℕ) → at + len ≤ length l → word_of (take len (drop at l)) < 2 ^ len
part_fits l at len within = subst (λ n. word_of (take len (drop at l)) < 2 ^ n) (length_part at len l within) (word_of_lt (take len (drop at l)))

pub ruleset combining = (set_and, set_or, set_not, set_and_not, set_or_not, set_choice, of_and, of_or, of_and_not, of_or_not, of_not, of_choice)

pub ruleset pieces = (length-zip_three, packed_more, part_fits)
