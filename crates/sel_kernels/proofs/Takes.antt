-- Values, bits and rows at indices, and checks of indices.
use Rattle.sel_kernels.proofs.Common.{common_steps, ◌≡◌, All, ℕ, zero, suc, ◌<◌, pos, Bool, true, false, List, [], ◌∷◌, length, map, get_or, replicate}
use Rattle.sel_kernels.proofs.Common.{Option, Some, None, refl, ap, sym, ◌∙◌, subst, arith, if◌then◌else◌, list_all, ForSome, length-map, get_or-map}
use Rattle.sel_kernels.proofs.Common.{ltb-true, Bits, Value, Null, Number, hidden, masked, Covers, valid_at, all_at, and_first, and_second, bits_for, found}
use Rattle.sel_kernels.proofs.Common.{pick, pick_of, take_rows, is_within, all_within, valid_pick, ◌≤◌, ◌+◌, ◌*◌, ◌%◌, ◌^◌, ◌++◌, take, drop, append-nil}
use Rattle.sel_kernels.proofs.Common.{◌==◌, from_bool, eqb-true, drop-map, get_or_default, take-append-drop, take-map, word_of, word_of-few, word_of-next}
use Rattle.sel_kernels.proofs.Common.{all_below, place_pick, ◌≢◌, lt-ltb, nat_lt, number_rows, near_place, near_value, zip_with, ◌&&◌, ◌||◌, not, both}
use Rattle.sel_kernels.proofs.Common.{map-id, ℤ, list_all-map, max_rows, negsuc, nat_le, narrowed, ◌/◌, leb-true, le-leb, is_block_within, blocks_within}
use Rattle.sel_kernels.proofs.Common.{take_all}
use Rattle.sel_arrow.proofs.Rows.{null_mapped, valid_mapped}
use lib.Pow.{pow_mono}
use Rattle.std.proofs.Common.{cond}
use Rattle.std.proofs.lemmas.List.{drop_all, length-drop}
use Rattle.std.proofs.{lemmas.List.Folds.list_all-append, Math.Bool.and-true, Math.Bool.and-false, Math.Bool.or-false, Math.Bool.or-true}
use Rattle.sel_bits.{specs.Words.bits, proofs.Packed.bits_word_of, proofs.Packed.block_packed, proofs.Padded.word_of_lt}

-- ---- the row at one index

-- The row of a column with a validity.
pub row_under : {A : Type 0} (f : A → Value) → (validity : Option Bits) (xs : List A) (d : A) (i : ℕ) → i < length xs → Covers validity (length xs)
    → get_or (masked validity (map f xs)) i Null ≡ (if valid_at validity i then f (get_or xs i d) else Null)
row_under f validity xs d i inside covers = by (valid_at validity i) refl
  where
    by : (b : Bool) → valid_at validity i ≡ b → get_or (masked validity (map f xs)) i Null ≡ (if b then f (get_or xs i d) else Null)
    by true e = valid_mapped f xs validity i d e inside covers
    by false e = null_mapped f xs validity i e inside covers

pub row_taken : {A : Type 0} (f : A → Value) → (validity : Option Bits) (xs : List A) (d : A) (index : Value) → Covers validity (length xs) → is_within (length xs) index ≡ true
    → (if valid_pick validity (pick_of index) then f (found d (xs ∷ []) (pick_of index)) else Null) ≡ found Null (masked validity (map f xs) ∷ []) (pick_of index)
row_taken f validity xs d (Number (pos i)) covers within = sym (row_under f validity xs d i (ltb-true i (length xs) within) covers)
row_taken f validity xs d index covers within = refl

-- ---- the rows at all indices

taken_list : {A : Type 0} (f : A → Value) → (validity : Option Bits) (xs : List A) (d : A) (indices : List Value) → Covers validity (length xs) → all_within (length xs) indices ≡ true
    → hidden (map (valid_pick validity) (map pick_of indices)) (map f (pick d (xs ∷ []) (map pick_of indices))) ≡ take_rows (masked validity (map f xs)) indices
taken_list f validity xs d [] covers within = refl
taken_list f validity xs d (index ∷ indices) covers within =
    (λ i. row_taken f validity xs d index covers (and_first _ _ within) i ∷ taken_list f validity xs d indices covers (and_second _ _ within) i)

pub hidden_trues : (n : ℕ) (vs : List Value) → hidden (replicate n true) vs ≡ vs
hidden_trues (suc n) (v ∷ vs) = ap (λ l. v ∷ l) (hidden_trues n vs)
hidden_trues n vs = refl

-- Rows under an optional validity, which is none if each row is valid.
pub masked_for : (n : ℕ) (taken : Option Bits) (vs : List Value) → masked taken vs ≡ hidden (bits_for n taken) vs
masked_for n None vs = sym (hidden_trues n vs)
masked_for n (Some bits) vs = refl

-- The rows of a column with the values and the validity at the indices are the rows at the indices.
pub taken_rows : {A : Type 0} (f : A → Value) → (validity taken : Option Bits) (xs ys : List A) (d : A) (indices : List Value) → Covers validity (length xs) → all_within (length xs) indices ≡ true
    → hidden (map (valid_pick validity) (map pick_of indices)) (map f ys) ≡ hidden (map (valid_pick validity) (map pick_of indices)) (map f (pick d (xs ∷ []) (map pick_of indices)))
    → bits_for (length indices) taken ≡ map (valid_pick validity) (map pick_of indices)
    → masked taken (map f ys) ≡ take_rows (masked validity (map f xs)) indices
taken_rows f validity taken xs ys d indices covers within values valid =
    masked_for (length indices) taken (map f ys) ∙ ap (λ bits. hidden bits (map f ys)) valid ∙ values ∙ taken_list f validity xs d indices covers within

-- Indices without a validity, of rows without one.
pub none_null : (places : List ℕ) → replicate (length (map (λ x. Number (pos x)) places)) true ≡ map (valid_pick None) (map pick_of (map (λ x. Number (pos x)) places))
none_null [] = refl
none_null (place ∷ places) = ap (λ l. true ∷ l) (none_null places)

pub length-pick : {A : Type 0} (d : A) → (xss : List (List A)) (indices : List Value) → length (pick d xss (map pick_of indices)) ≡ length indices
length-pick d xss indices = length-map (map pick_of indices) (found d xss) ∙ length-map indices pick_of

pub length-valid : (validity : Option Bits) (indices : List Value) → length (map (valid_pick validity) (map pick_of indices)) ≡ length indices
length-valid validity indices = length-map (map pick_of indices) (valid_pick validity) ∙ length-map indices pick_of

-- ---- properties of each element

pub all_pass : {A : Type 0} (p q : A → Bool) → ((x : A) → p x ≡ true → q x ≡ true) → (xs : List A) → list_all p xs ≡ true → list_all q xs ≡ true
all_pass p q each [] h = refl
all_pass p q each (x ∷ xs) h = both (q x) (list_all q xs) (each x (and_first _ _ h)) (all_pass p q each xs (and_second _ _ h))

pub passed_at : {A : Type 0} (p : A → Bool) → (xs : List A) (d : A) (i : ℕ) → list_all p xs ≡ true → p d ≡ true → p (get_or xs i d) ≡ true
passed_at p [] d i all filler = filler
passed_at p (x ∷ xs) d zero all filler = and_first (p x) (list_all p xs) all
passed_at p (x ∷ xs) d (suc i) all filler = passed_at p xs d i (and_second (p x) (list_all p xs) all) filler

pub passed_taken : {A : Type 0} (p : A → Bool) → (xs : List A) (d : A) (indices : List Value) → list_all p xs ≡ true → p d ≡ true → list_all p (pick d (xs ∷ []) (map pick_of indices)) ≡ true
passed_taken p xs d [] all filler = refl
passed_taken p xs d (Number (pos i) ∷ indices) all filler = rw (passed_at p xs d i all filler) (passed_taken p xs d indices all filler)
passed_taken p xs d (index ∷ indices) all filler = rw filler (passed_taken p xs d indices all filler)

-- ---- preconditions

pub within_as : (n m : ℕ) (indices : List Value) → n ≡ m → all_within n indices ≡ true → all_within m indices ≡ true
within_as n m indices same within = subst (λ (k : ℕ). all_within k indices ≡ true) same within

pub validity_within : (validity : Option Bits) (n : ℕ) (indices : List Value) → Covers validity n → all_within n indices ≡ true → ForSome validity (λ v. all_within (length v.bits) indices ≡ true)
validity_within validity n indices covers within = λ v there. within_as n (length v.bits) indices (sym (covers v there)) within

-- The validity of the rows that are taken has their length.
pub covers_for : {A : Type 0} → (taken : Option Bits) (xs : List A) (indices : List Value) (validity : Option Bits) → bits_for (length indices) taken ≡ map (valid_pick validity) (map pick_of indices) → length xs ≡ length indices → Covers taken (length xs)
covers_for taken xs indices validity valid count = grind (arith, common_steps, length-valid)

-- ---- nulls

null_at : (n : ℕ) (i : ℕ) → get_or (replicate n Null) i Null ≡ Null
null_at (suc n) (suc i) = null_at n i
null_at n i = refl

pub taken_nulls : (n : ℕ) (indices : List Value) → replicate (length indices) Null ≡ take_rows (replicate n Null) indices
taken_nulls n [] = refl
taken_nulls n (Number (pos i) ∷ indices) = cc (null_at n i, taken_nulls n indices)
taken_nulls n (index ∷ indices) = ap (λ l. Null ∷ l) (taken_nulls n indices)

-- ---- indices without nulls

pub places_within : (n : ℕ) (places : List ℕ) → all_within n (map (λ x. Number (pos x)) places) ≡ true → All (λ place. place < n) places
places_within n places within =
    λ k d h.
    let number = λ (x : ℕ). Number (pos x) in
    let there : k < length (map number places) = rw length-map h in
    ltb-true (get_or places k d) n (ap (is_within n) (sym (get_or-map number places k d (number d) h)) ∙ all_at (is_within n) (map number places) k (number d) within there)

-- ---- validity bits at indices

-- Bits of a validity at indices, false for a null index, are the validity of the rows.
pub picked_valid : (v : Bits) (indices : List Value) → pick false (v.bits ∷ []) (map pick_of indices) ≡ map (valid_pick (Some v)) (map pick_of indices)
picked_valid v [] = refl
picked_valid v (Number (pos i) ∷ indices) = ap (λ l. get_or v.bits i false ∷ l) (picked_valid v indices)
picked_valid v (index ∷ indices) = ap (λ l. false ∷ l) (picked_valid v indices)

-- Without a validity of the values, a row is valid if its index is.
pub named_bits : (bits : List Bool) (places : List ℕ) → length bits ≡ length places → bits ≡ map (valid_pick None) (map pick_of (hidden bits (map (λ x. Number (pos x)) places)))
named_bits [] [] same = refl
named_bits (true ∷ bits) (place ∷ places) same = ap (λ l. true ∷ l) (named_bits bits places (omega (arith, same)))
named_bits (false ∷ bits) (place ∷ places) same = ap (λ l. false ∷ l) (named_bits bits places (omega (arith, same)))
named_bits bits places same = absurd (omega (arith, same))

-- ---- bits at positions, a word at a time

-- The bits at positions.
abbrev pub bits_at : List Bool → List ℕ → List Bool
bits_at bs places = pick false (bs ∷ []) (map place_pick places)

pub length-bits_at : (bs : List Bool) (places : List ℕ) → length (bits_at bs places) ≡ length places
length-bits_at bs places = length-map (map place_pick places) (found false (bs ∷ [])) ∙ length-map places place_pick

at_place : (bs : List Bool) (places : List ℕ) (k : ℕ) → k < length places → get_or (bits_at bs places) k false ≡ get_or bs (get_or places k 0) false
at_place bs [] k h = absurd (omega (arith, h))
at_place bs (place ∷ places) zero h = refl
at_place bs (place ∷ places) (suc k) h = at_place bs places k (omega (arith, h))

from_is : (b : Bool) → from_bool b ≡ cond b 1 0
from_is true = refl
from_is false = refl

-- The bit below those of a word.
pub word_before : (bs : List Bool) (places : List ℕ) (k word bit : ℕ) → k < length places → word ≡ word_of (drop (suc k) (bits_at bs places)) → bit ≡ from_bool (get_or bs (get_or places k 0) false)
    → 2 * word + bit ≡ word_of (drop k (bits_at bs places))
word_before bs [] k word bit inside is bit_is = absurd (omega (arith, inside))
word_before bs (place ∷ places) zero word bit inside is bit_is = omega (arith, is, bit_is, from_is (get_or bs place false))
word_before bs (place ∷ places) (suc k) word bit inside is bit_is = word_before bs places k word bit (omega (arith, inside)) is bit_is

pub word_small : (bs : List Bool) (places : List ℕ) (k : ℕ) → length places ≤ 64 → k ≤ length places → word_of (drop k (bits_at bs places)) < 2 ^ 64
word_small bs places k short inside =
    let l = drop k (bits_at bs places) in
    let few : length l ≤ 64 = omega (arith, length-drop k (bits_at bs places), length-bits_at bs places, short) in
    let bound : 2 ^ length l ≤ 2 ^ 64 = pow_mono few in
    omega (arith, word_of_lt l, bound)

pub no_word : (bs : List Bool) (places : List ℕ) → word_of (drop (length places) (bits_at bs places)) ≡ 0
no_word bs places = ap word_of (drop_all (length places) (bits_at bs places) (omega (arith, length-bits_at bs places)))

pub word_at_lt : (bs : List Bool) (places : List ℕ) (word : ℕ) → word ≡ word_of (bits_at bs places) → word < 2 ^ length places
word_at_lt bs places word is = rw (is, sym (length-bits_at bs places)) (word_of_lt (bits_at bs places))

-- The bits of the first positions, followed by those of the others.
pub word_packed : (bs : List Bool) (packed : List Bool) (rest all : List ℕ) (n word : ℕ) → packed ++ bits_at bs rest ≡ bits_at bs all → word ≡ word_of (bits_at bs (take n rest))
    → (packed ++ bits (length (take n rest)) word) ++ bits_at bs (drop n rest) ≡ bits_at bs all
word_packed bs packed rest all n word before is =
    let front = take n rest in
    let block : bits (length front) word ≡ bits_at bs front =
    ap (bits (length front)) is ∙ ap (λ m. bits m (word_of (bits_at bs front))) (sym (length-bits_at bs front)) ∙ bits_word_of (bits_at bs front) in
    let first : bits_at bs front ≡ take n (bits_at bs rest) = rw (take-map, take-map) in
    let others : drop n (bits_at bs rest) ≡ bits_at bs (drop n rest) = rw (drop-map, drop-map) in
    rw (← others) (block_packed packed (bits (length front) word) (bits_at bs rest) (bits_at bs all) n before (block ∙ first))

-- Without positions there are no more bits.
pub all_packed : (bs packed : List Bool) (rest all : List ℕ) → true ≡ (length rest == 0) → packed ++ bits_at bs rest ≡ bits_at bs all → packed ≡ bits_at bs all
all_packed bs packed [] all none is = sym (append-nil packed) ∙ is
all_packed bs packed (place ∷ rest) all none is = absurd (omega (arith, eqb-true (length (place ∷ rest)) 0 (sym none)))

-- Positions less than a number are so in both parts.
pub below_parts : (n m : ℕ) (places : List ℕ) → all_below n places ≡ true → (all_below n (take m places) ≡ true) × (all_below n (drop m places) ≡ true)
below_parts n m places below =
    let parts = sym (list_all-append _ (take m places) (drop m places)) ∙ ap (all_below n) (take-append-drop m places) ∙ below in
    (and_first (all_below n (take m places)) (all_below n (drop m places)) parts, and_second (all_below n (take m places)) (all_below n (drop m places)) parts)

-- ---- indices without nulls

-- The value for null indices does not matter.
pub named_at : (bs : List Bool) (filler : Bool) (places : List ℕ) → all_below (length bs) places ≡ true
    → bits_at bs places ≡ pick filler (bs ∷ []) (map pick_of (map (λ x. Number (pos x)) places))
named_at bs filler [] below = refl
named_at bs filler (place ∷ places) below =
    let here = get_or_default bs place false filler (ltb-true place (length bs) (and_first _ (all_below (length bs) places) below)) in
    (λ i. here i ∷ named_at bs filler places (and_second _ (all_below (length bs) places) below) i)

-- ---- values at indices of which some are null: those of null indices are any, and hidden by the validity

-- An index in bounds is left as it is.
pub near_at : {A : Type 0} (xs : List A) (d : A) (place : ℕ) → nat_lt place (length xs) ≡ true → near_value xs d place ≡ get_or xs place d
near_at xs d place within = ap (λ b. get_or xs (if b then place else 0) d) within

hidden_near : {A : Type 0} (f : A → Value) → (validity : Option Bits) (xs : List A) (d : A) (bits : List Bool) (places : List ℕ)
    → all_within (length xs) (hidden bits (map (λ x. Number (pos x)) places)) ≡ true
    → hidden (map (valid_pick validity) (map pick_of (hidden bits (map (λ x. Number (pos x)) places)))) (map f (map (near_value xs d) places))
    ≡ hidden (map (valid_pick validity) (map pick_of (hidden bits (map (λ x. Number (pos x)) places)))) (map f (pick d (xs ∷ []) (map pick_of (hidden bits (map (λ x. Number (pos x)) places)))))
hidden_near f validity xs d [] (place ∷ places) within =
    (λ i. (if valid_at validity place then f (near_at xs d place (and_first _ _ within) i) else Null) ∷ hidden_near f validity xs d [] places (and_second _ _ within) i)
hidden_near f validity xs d (true ∷ bits) (place ∷ places) within =
    (λ i. (if valid_at validity place then f (near_at xs d place (and_first _ _ within) i) else Null) ∷ hidden_near f validity xs d bits places (and_second _ _ within) i)
hidden_near f validity xs d (false ∷ bits) (place ∷ places) within = ap (λ l. Null ∷ l) (hidden_near f validity xs d bits places within)
hidden_near f validity xs d bits places within = refl

hidden_all : {A : Type 0} (f : A → Value) → (validity named : Option Bits) (xs : List A) (d : A) (places : List ℕ) → all_within (length xs) (number_rows pos places named) ≡ true
    → hidden (map (valid_pick validity) (map pick_of (number_rows pos places named))) (map f (map (near_value xs d) places))
    ≡ hidden (map (valid_pick validity) (map pick_of (number_rows pos places named))) (map f (pick d (xs ∷ []) (map pick_of (number_rows pos places named))))
hidden_all f validity (Some bits) xs d places within = hidden_near f validity xs d bits.bits places within
hidden_all f validity None xs d places within = hidden_near f validity xs d [] places within

-- The rows of a column with such values and the validity at the indices are the rows at the indices.
pub near_rows : {A : Type 0} (f : A → Value) → (validity taken named : Option Bits) (xs ys : List A) (d : A) (places : List ℕ) → Covers validity (length xs)
    → all_within (length xs) (number_rows pos places named) ≡ true → ys ≡ map (near_value xs d) places
    → bits_for (length (number_rows pos places named)) taken ≡ map (valid_pick validity) (map pick_of (number_rows pos places named))
    → masked taken (map f ys) ≡ take_rows (masked validity (map f xs)) (number_rows pos places named)
near_rows f validity taken named xs ys d places covers within values valid =
    let rows = number_rows pos places named in
    taken_rows f validity taken xs ys d rows covers within
    (ap (λ l. hidden (map (valid_pick validity) (map pick_of rows)) (map f l)) values ∙ hidden_all f validity named xs d places within) valid

-- Such values have each property of all values.
pub passed_near : {A : Type 0} (p : A → Bool) → (xs : List A) (d : A) (places : List ℕ) → list_all p xs ≡ true → p d ≡ true → list_all p (map (near_value xs d) places) ≡ true
passed_near p xs d [] all filler = refl
passed_near p xs d (place ∷ places) all filler = rw (passed_at p xs d (near_place (length xs) place) all filler) (passed_near p xs d places all filler)

-- ---- bits

one_below : (n place : ℕ) (b : Bool) → nat_lt place (suc n) ≡ b → nat_lt (if b then place else 0) (suc n) ≡ true
one_below n place true e = e
one_below n place false e = lt-ltb 0 (suc n) (omega arith)

-- Each such position is in bounds if there is a row.
pub near_below : (n : ℕ) (places : List ℕ) → n ≢ 0 → all_below n (map (near_place n) places) ≡ true
near_below n [] some = refl
near_below zero (place ∷ places) some = absurd (some refl)
near_below (suc n) (place ∷ places) some = rw (one_below n place (nat_lt place (suc n)) refl) (near_below (suc n) places some)

-- Bits at such positions, set for null indices by a function of two bits.
bits_near : (f : Bool → Bool → Bool) (filler : Bool) → ((x : Bool) → f x true ≡ x) → ((x : Bool) → f x false ≡ filler) → (bs named : List Bool) (places : List ℕ) → length named ≡ length places
    → all_within (length bs) (hidden named (map (λ x. Number (pos x)) places)) ≡ true
    → zip_with f (bits_at bs (map (near_place (length bs)) places)) named ≡ pick filler (bs ∷ []) (map pick_of (hidden named (map (λ x. Number (pos x)) places)))
bits_near f filler keeps fills bs [] [] same within = refl
bits_near f filler keeps fills bs (true ∷ named) (place ∷ places) same within =
    let others = all_within (length bs) (hidden named (map (λ x. Number (pos x)) places)) in
    let inside = and_first (nat_lt place (length bs)) others within in
    let here = keeps (near_value bs false place) ∙ near_at bs false place inside ∙ get_or_default bs place false filler (ltb-true place (length bs) inside) in
    (λ i. here i ∷ bits_near f filler keeps fills bs named places (omega (arith, same)) (and_second (nat_lt place (length bs)) others within) i)
bits_near f filler keeps fills bs (false ∷ named) (place ∷ places) same within =
    (λ i. fills (near_value bs false place) i ∷ bits_near f filler keeps fills bs named places (omega (arith, same)) within i)
bits_near f filler keeps fills bs named places same within = absurd (omega (arith, same))

pub falses_near : (bs named : List Bool) (places : List ℕ) → length named ≡ length places → all_within (length bs) (hidden named (map (λ x. Number (pos x)) places)) ≡ true
    → zip_with (λ x y. x && y) (bits_at bs (map (near_place (length bs)) places)) named ≡ pick false (bs ∷ []) (map pick_of (hidden named (map (λ x. Number (pos x)) places)))
falses_near bs named places = bits_near (λ x y. x && y) false and-true and-false bs named places

pub trues_near : (bs named : List Bool) (places : List ℕ) → length named ≡ length places → all_within (length bs) (hidden named (map (λ x. Number (pos x)) places)) ≡ true
    → zip_with (λ x y. x || not y) (bits_at bs (map (near_place (length bs)) places)) named ≡ pick true (bs ∷ []) (map pick_of (hidden named (map (λ x. Number (pos x)) places)))
trues_near bs named places = bits_near (λ x y. x || not y) true or-false or-true bs named places

-- Without bits each index gives the filler.
pub no_bits : (filler : Bool) (bs : List Bool) (rows : List Value) → length bs ≡ 0 → pick filler (bs ∷ []) (map pick_of rows) ≡ replicate (length rows) filler
no_bits filler (b ∷ bs) rows none = absurd (omega (arith, none))
no_bits filler [] [] none = refl
no_bits filler [] (Number (pos i) ∷ rows) none = ap (λ l. filler ∷ l) (no_bits filler [] rows none)
no_bits filler [] (row ∷ rows) none = ap (λ l. filler ∷ l) (no_bits filler [] rows none)

pub ruleset unchanged = (map-id)

pub ruleset word_ends = (no_word, length-map)

-- ---- checks of indices

-- A row whose number is in bounds is in bounds under any validity.
pub row_within : {T : Type 0} (number : T → ℤ) → (validity : Option Bits) (xs : List T) (d : T) (k n : ℕ) → Covers validity (length xs) → k < length xs
    → is_within n (Number (number (get_or xs k d))) ≡ true → is_within n (get_or (number_rows number xs validity) k Null) ≡ true
row_within number validity xs d k n covers inside within =
    ap (is_within n) (row_under (λ x. Number (number x)) validity xs d k inside covers) ∙ by (valid_at validity k)
  where
    by : (b : Bool) → is_within n (if b then Number (number (get_or xs k d)) else Null) ≡ true
    by true = within
    by false = refl

-- A 32-bit number is less than any number that exceeds 32 bits.
pub few_below : (n : ℕ) → (places : List ℕ) → max_rows < n → ((k : ℕ) → get_or places k 0 < 4294967296) → all_below n places ≡ true
few_below n [] past fit = refl
few_below n (place ∷ places) past fit =
    rw (lt-ltb place n (omega (arith, past, fit 0))) (few_below n places past (λ k. fit (suc k)))

-- Positions as rows.
pub below_rows : (n : ℕ) (places : List ℕ) → all_below n places ≡ all_within n (map (λ x. Number (pos x)) places)
below_rows n places = sym (list_all-map (is_within n) (λ x. Number (pos x)) places)

-- No position is less than 0.
pub none_below : (places : List ℕ) → all_below 0 places ≡ (length places == 0)
none_below [] = refl
none_below (place ∷ places) = grind (arith, common_steps, nat_lt)

below_hidden : (n : ℕ) (bits : List Bool) (places : List ℕ) → all_below n places ≡ true → all_within n (hidden bits (map (λ x. Number (pos x)) places)) ≡ true
below_hidden n [] places below = sym (below_rows n places) ∙ below
below_hidden n (bit ∷ bits) [] below = refl
below_hidden n (true ∷ bits) (place ∷ places) below = both _ _ (and_first _ _ below) (below_hidden n bits places (and_second _ _ below))
below_hidden n (false ∷ bits) (place ∷ places) below = below_hidden n bits places (and_second (nat_lt place n) _ below)

-- Positions in bounds are so as rows, under any validity.
pub below_masked : (n : ℕ) (places : List ℕ) (validity : Option Bits) → all_below n places ≡ true → all_within n (number_rows pos places validity) ≡ true
below_masked n places None below = sym (below_rows n places) ∙ below
below_masked n places (Some validity) below = below_hidden n validity.bits places below

-- ---- indices of any integer type as 32-bit integers

-- An index of one of at most 2^32 - 1 rows.
one_narrow : (n : ℕ) (z : ℤ) → n ≤ max_rows → is_within n (Number z) ≡ true → pos (narrowed z) ≡ z
one_narrow n (pos i) few within = grind (arith, common_steps, le-leb)
one_narrow n (negsuc i) few within = cc

listed_hidden : {T : Type 0} (number : T → ℤ) → (n : ℕ) (bits : List Bool) (xs : List T) → n ≤ max_rows → all_within n (hidden bits (map (λ x. Number (number x)) xs)) ≡ true
    → hidden bits (map (λ x. Number (pos x)) (map (λ x. narrowed (number x)) xs)) ≡ hidden bits (map (λ x. Number (number x)) xs)
listed_hidden number n [] (x ∷ xs) few within =
    (λ i. Number (one_narrow n (number x) few (and_first _ _ within) i) ∷ listed_hidden number n [] xs few (and_second _ _ within) i)
listed_hidden number n (true ∷ bits) (x ∷ xs) few within =
    (λ i. Number (one_narrow n (number x) few (and_first _ _ within) i) ∷ listed_hidden number n bits xs few (and_second _ _ within) i)
listed_hidden number n (false ∷ bits) (x ∷ xs) few within = ap (λ l. Null ∷ l) (listed_hidden number n bits xs few within)
listed_hidden number n bits xs few within = refl

pub narrow_rows : {T : Type 0} (number : T → ℤ) → (n : ℕ) (xs : List T) (validity : Option Bits) → n ≤ max_rows → all_within n (number_rows number xs validity) ≡ true
    → number_rows pos (map (λ x. narrowed (number x)) xs) validity ≡ number_rows number xs validity
narrow_rows number n xs None few within = listed_hidden number n [] xs few within
narrow_rows number n xs (Some validity) few within = listed_hidden number n validity.bits xs few within

-- ---- the check of block indices equals a check of row indices

empty_block : (n i : ℕ) → is_block_within 0 n (Number (pos i)) ≡ true
empty_block n i = le-leb ((i + 1) * 0) n (omega arith)

empty_hidden : (n : ℕ) (bits : List Bool) (xs : List ℕ) → blocks_within 0 n (hidden bits (map (λ x. Number (pos x)) xs)) ≡ true
empty_hidden n [] (x ∷ xs) = rw (empty_block n x) (empty_hidden n [] xs)
empty_hidden n (true ∷ bits) (x ∷ xs) = rw (empty_block n x) (empty_hidden n bits xs)
empty_hidden n (false ∷ bits) (x ∷ xs) = empty_hidden n bits xs
empty_hidden n bits xs = refl

pub empty_blocks : (n : ℕ) (xs : List ℕ) (validity : Option Bits) → blocks_within 0 n (number_rows pos xs validity) ≡ true
empty_blocks n xs None = empty_hidden n [] xs
empty_blocks n xs (Some v) = empty_hidden n v.bits xs

-- ---- other blocks

same_test : (a b : Bool) → (a ≡ true → b ≡ true) → (b ≡ true → a ≡ true) → a ≡ b
same_test true b there back = sym (there refl)
same_test false true there back = back refl
same_test false false there back = refl

block_test : (size n i : ℕ) → 0 < size → nat_lt i (n / size) ≡ nat_le ((i + 1) * size) n
block_test size n i some = grind (arith, common_steps, same_test, nat_lt, nat_le, le-leb, ltb-true, lt-ltb, leb-true)

value_test : (size n : ℕ) (v : Value) → 0 < size → is_within (n / size) v ≡ is_block_within size n v
value_test size n (Number (pos i)) some = block_test size n i some
value_test size n v some = refl

pub blocks_test : (size n : ℕ) (indices : List Value) → 0 < size → all_within (n / size) indices ≡ blocks_within size n indices
blocks_test size n [] some = refl
blocks_test size n (v ∷ indices) some = λ i. value_test size n v some i && blocks_test size n indices some i
