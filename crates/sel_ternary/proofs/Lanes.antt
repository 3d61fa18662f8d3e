-- If-then-else by vector operations.
use Rattle.sel_ternary.proofs.Common.{common_steps, ◌≡◌, ℕ, ℤ, zero, suc, ◌+◌, ◌*◌, ◌/◌, ◌^◌, ◌<◌, ◌≤◌, ◌∙◌, sym, refl, ap, arith, List, [], ◌∷◌, ◌++◌, length}
use Rattle.sel_ternary.proofs.Common.{map, take, drop, Bool, true, false, ◌==◌, if◌then◌else◌, vec_capacity, subst, eq-eqb, append_assoc, append-nil, length-append, length-map}
use Rattle.sel_ternary.proofs.Common.{bits, is_set, get_bits, length_bits, length_part, choose, all_ones}
use Rattle.std.proofs.Common.{◌%◌, bit_and, nat_eq, pow_pos}
use Rattle.std.specs.{Prelude.Vec, Int.bit_at, Global.Global, List.range_with_len, Simd.Lanes.sel_l, Simd.Lanes.Each1}
use Rattle.std.proofs.lemmas.{Bool.ne_eqb, Nat.one_shl, Nat.pow-add, Simd.map-map, Nat.Bits.and_pow, Nat.Bits.bit_at-lt}
use Rattle.std.proofs.lemmas.List.{get_or-drop, get_or-take, length-take, same_lists}
use Rattle.sel_bits.specs.{Bits.bits_from, Words.word_of}
use Rattle.sel_bits.proofs.{BitLists.length_bits_from, Loads.block_word, Packed.bits_word_of, Packs.bits_same, Packs.bits_split, Shifts.bit_at_mod, Shifts.bit_at_shr}
use Rattle.sel_ternary.proofs.Chosen.{AsLong, chosen_end, chosen_more, chosen_to, word_long}

-- ---- the lanes of set bits

-- A bit in its place, compared with the power of two of that place.
at_power : (b k : ℕ) → b < 2 → nat_eq (b * 2 ^ k) (2 ^ k) ≡ nat_eq b 1
at_power zero k lt = ne_eqb (0 * 2 ^ k) (2 ^ k) (λ e. absurd (omega (arith, e, pow_pos k)))
at_power (suc zero) k lt = eq-eqb (1 * 2 ^ k) (2 ^ k) (omega arith)
at_power (suc (suc b)) k lt = absurd (omega arith)

marked : (m k : ℕ) → nat_eq (bit_and m (2 ^ k)) (2 ^ k) ≡ is_set m k
marked m k = ap (λ x. nat_eq x (2 ^ k)) (and_pow m k) ∙ at_power (bit_at m k) k (bit_at-lt m k)

-- The lane for a bit of a word, which it has in common with a power of two.
pub lane_marked : (m k : ℕ) (f : Bool → ℤ) → f true ≡ all_ones true → f false ≡ all_ones false → f (nat_eq (bit_and m (2 ^ k)) (2 ^ k)) ≡ all_ones (is_set m k)
lane_marked m k f high low = same (nat_eq (bit_and m (2 ^ k)) (2 ^ k)) ∙ ap all_ones (marked m k)
  where
    same : (b : Bool) → f b ≡ all_ones b
    same true = high
    same false = low

-- The same for a bit of the word from position `at` on, by its power of two.
pub lane_from : (m at j p : ℕ) (f : Bool → ℤ) → p ≡ 2 ^ (at + j) → f true ≡ all_ones true → f false ≡ all_ones false → f (nat_eq (bit_and m p) p) ≡ all_ones (is_set (m / 2 ^ at) j)
lane_from m at j p f is high low =
    let place : at + j ≡ j + at = omega arith in
    ap (λ q. f (nat_eq (bit_and m q) q)) is ∙ lane_marked m (at + j) f high low ∙ ap (λ b. all_ones (b == 1)) (ap (bit_at m) place ∙ sym (bit_at_shr m at j))

-- A power of two that is shifted.
pub power_from : (at j w : ℕ) → at + j < w → 2 ^ j * 2 ^ at % 2 ^ w ≡ 2 ^ (at + j)
power_from at j w lt =
    let sum : j + at ≡ at + j = omega arith in
    let one : 2 ^ (at + j) ≡ 1 * 2 ^ (at + j) = omega arith in
    ap (λ x. x % 2 ^ w) (sym (pow-add 2 j at) ∙ ap (λ k. 2 ^ k) sum ∙ one) ∙ one_shl (at + j) w lt

-- The lanes for the bits of a word.
pub lanes_marked : (n m : ℕ) (f : Bool → ℤ) → f true ≡ all_ones true → f false ≡ all_ones false → map (λ k. f (nat_eq (bit_and m (2 ^ k)) (2 ^ k))) (range_with_len 0 n) ≡ map all_ones (bits n m)
unfolding bits
lanes_marked n m f high low = (λ i. map (λ k. lane_marked m k f high low i) (range_with_len 0 n)) ∙ sym (map-map all_ones (is_set m) (range_with_len 0 n))

-- The bits of the two bytes of a word.
pub two_bytes : (m : ℕ) → bits 8 (m % 256) ++ bits 8 (m / 256) ≡ bits 16 m
two_bytes m = ap (λ l. l ++ bits 8 (m / 256)) (bits_same 8 (m % 256) m (λ i lt. bit_at_mod m 8 i lt)) ∙ sym (bits_split 8 8 m)

-- ---- the chosen values

sel_is_choose : {A : Type 0} → (ms : List Bool) (ts fs : List A) → sel_l ms ts fs ≡ choose ms ts fs
sel_is_choose [] ts fs = refl
sel_is_choose (m ∷ ms) [] fs = refl
sel_is_choose (m ∷ ms) (t ∷ ts) [] = refl
sel_is_choose (m ∷ ms) (t ∷ ts) (f ∷ fs) = ap (λ l. (if m then t else f) ∷ l) (sel_is_choose ms ts fs)

sel_signed : {A B : Type 0} → (g : A → B) (h : B → A) (ms : List Bool) (ts fs : List A) → Each1 (λ x. h (g x) ≡ x) ts → Each1 (λ x. h (g x) ≡ x) fs → map h (sel_l ms (map g ts) (map g fs)) ≡ choose ms ts fs
sel_signed g h [] ts fs p q = refl
sel_signed g h (m ∷ ms) [] fs p q = refl
sel_signed g h (m ∷ ms) (t ∷ ts) [] p q = refl
sel_signed g h (true ∷ ms) (t ∷ ts) (f ∷ fs) (p, ps) (q, qs) = λ i. p i ∷ sel_signed g h ms ts fs ps qs i
sel_signed g h (false ∷ ms) (t ∷ ts) (f ∷ fs) (p, ps) (q, qs) = λ i. q i ∷ sel_signed g h ms ts fs ps qs i

-- The highest bits of lanes that are all ones, or all zeros.
module _ (t : ℕ → Bool) (u : ℤ → ℕ) (high : t (u (all_ones true)) ≡ true) (low : t (u (all_ones false)) ≡ false) where
  tops : (ms : List Bool) → map t (map u (map all_ones ms)) ≡ ms
  tops [] = refl
  tops (true ∷ ms) = λ i. high i ∷ tops ms i
  tops (false ∷ ms) = λ i. low i ∷ tops ms i

module _ (t : ℕ → Bool) (u : ℤ → ℕ) (high : t (u (all_ones true)) ≡ true) (low : t (u (all_ones false)) ≡ false) (ms : List Bool) (lanes : List ℤ) (is : lanes ≡ map all_ones ms) where
  set_bits : map t (map u lanes) ≡ ms
  set_bits = ap (λ l. map t (map u l)) is ∙ tops t u high low ms

  -- Vectors of unsigned values.
  pub unsigned_lanes : {A : Type 0} → (ts fs items new xs ys : List A) → xs ≡ ts → ys ≡ fs → new ≡ items ++ sel_l (map t (map u lanes)) xs ys → new ≡ items ++ choose ms ts fs
  unsigned_lanes ts fs items new xs ys trues falses appended =
      appended ∙ (λ i. items ++ sel_l (set_bits i) (trues i) (falses i)) ∙ ap (λ l. items ++ l) (sel_is_choose ms ts fs)

  -- Vectors of signed values, whose lanes are their bits.
  pub signed_lanes : {A : Type 0} → (g : A → ℕ) (h : ℕ → A) (ts fs items new xs ys : List A) → xs ≡ ts → ys ≡ fs → Each1 (λ x. h (g x) ≡ x) ts → Each1 (λ x. h (g x) ≡ x) fs
      → new ≡ items ++ map h (sel_l (map t (map u lanes)) (map g xs) (map g ys)) → new ≡ items ++ choose ms ts fs
  signed_lanes g h ts fs items new xs ys trues falses p q appended =
      appended ∙ (λ i. items ++ map h (sel_l (set_bits i) (map g (trues i)) (map g (falses i)))) ∙ ap (λ l. items ++ l) (sel_signed g h ms ts fs p q)

-- As many values are chosen as there are lanes.
sel_length : {A : Type 0} → (ms : List Bool) (xs ys : List A) → length xs ≡ length ms → length ys ≡ length ms → length (sel_l ms xs ys) ≡ length ms
sel_length [] xs ys p q = refl
sel_length (m ∷ ms) [] ys p q = absurd (omega (arith, p))
sel_length (m ∷ ms) (x ∷ xs) [] p q = absurd (omega (arith, q))
sel_length (m ∷ ms) (x ∷ xs) (y ∷ ys) p q = ap suc (sel_length ms xs ys (omega (arith, p)) (omega (arith, q)))

pub signed_length : {A : Type 0} → (t : ℕ → Bool) (u : ℤ → ℕ) (g : A → ℕ) (h : ℕ → A) (n mask : ℕ) (lanes : List ℤ) (xs ys : List A) → lanes ≡ map all_ones (bits n mask) → length xs ≡ n → length ys ≡ n
    → length (map h (sel_l (map t (map u lanes)) (map g xs) (map g ys))) ≡ n
signed_length t u g h n mask lanes xs ys is p q =
    let marks : length (map t (map u lanes)) ≡ n = length-map (map u lanes) t ∙ length-map lanes u ∙ ap length is ∙ length-map (bits n mask) all_ones ∙ length_bits n mask in
    length-map (sel_l (map t (map u lanes)) (map g xs) (map g ys)) h ∙ sel_length (map t (map u lanes)) (map g xs) (map g ys) (length-map xs g ∙ p ∙ sym marks) (length-map ys g ∙ q ∙ sym marks) ∙ marks

-- ---- values that are appended

-- A part of the values is appended, within the capacity.
pub record IsFilled {A : Type 0} (items part : List A) (capacity : ℕ) (out : Vec A Global) : Type 0 where
  pub appended : out.items ≡ items ++ part
  pub room : vec_capacity out ≡ capacity

module _ {A : Type 0} (n : ℕ) (ms : List Bool) (ts fs : List A) (long : AsLong n ms ts fs) (items : List A) (capacity at : ℕ) (out : Vec A Global) (was : IsFilled items (chosen_to ms ts fs at) capacity out) where
  -- The next entries are appended.
  pub filled_next : (count : ℕ) (new : Vec A Global) (block : List A) → new.items ≡ out.items ++ block → vec_capacity new ≡ vec_capacity out
      → block ≡ choose (take count (drop at ms)) (take count (drop at ts)) (take count (drop at fs)) → IsFilled items (chosen_to ms ts fs (at + count)) capacity new
  filled_next count new block is same block_is = grind (arith, common_steps, append_assoc, at, chosen_more, long)

  -- All entries are appended.
  pub filled_all : at ≡ n → out.items ≡ items ++ choose ms ts fs
  filled_all all = was.appended ∙ ap (λ l. items ++ l) (chosen_end n ms ts fs long at all)

-- Nothing is appended yet.
pub filled_none : {A : Type 0} → (ms : List Bool) (ts fs : List A) (out : Vec A Global) → IsFilled out.items (chosen_to ms ts fs 0) (vec_capacity out) out
filled_none ms ts fs out = record { appended = sym (append-nil out.items); room = refl }

-- At most as many entries are appended as there are positions.
few_chosen : {A : Type 0} → (ms : List Bool) (ts fs : List A) → length (choose ms ts fs) ≤ length ms
few_chosen [] ts fs = omega arith
few_chosen (m ∷ ms) [] fs = omega arith
few_chosen (m ∷ ms) (t ∷ ts) [] = omega arith
few_chosen (m ∷ ms) (t ∷ ts) (f ∷ fs) = omega (arith, few_chosen ms ts fs)

pub chosen_grows : {A : Type 0} → (items ts fs : List A) (ms : List Bool) (at : ℕ) → length (items ++ choose (take at ms) (take at ts) (take at fs)) ≤ length items + at
chosen_grows items ts fs ms at = omega (arith, length-append items (choose (take at ms) (take at ts) (take at fs)), few_chosen (take at ms) (take at ts) (take at fs), length-take at ms)

-- As many entries are appended as there are positions, at most.
pub filled_size : {A : Type 0} → (ms : List Bool) (ts fs items : List A) (capacity at : ℕ) (out : Vec A Global) → IsFilled items (chosen_to ms ts fs at) capacity out →
    length out.items ≤ length items + at
filled_size ms ts fs items capacity at out was = omega (arith, ap length was.appended, chosen_grows items ts fs ms at)

-- As many as there are positions, if nothing was there before.
pub few_filled : {A : Type 0} → (ms : List Bool) (ts fs : List A) (capacity at : ℕ) (out : Vec A Global) → IsFilled [] (chosen_to ms ts fs at) capacity out → length out.items ≤ at
few_filled ms ts fs capacity at out was = omega (arith, ap length was.appended, chosen_grows [] ts fs ms at)

pub ruleset filling = (filled_none, chosen_grows)

-- The bits of a word from position `at` on.
pub bits_part : (n mask at count : ℕ) → at + count ≤ n → bits count (mask / 2 ^ at) ≡ take count (drop at (bits n mask))
bits_part n mask at count le =
    same_lists (bits count (mask / 2 ^ at)) (take count (drop at (bits n mask))) (length_bits count (mask / 2 ^ at) ∙ sym (length_part at count (bits n mask) (omega (arith, le, length_bits n mask))))
    (λ i d lt.
    let low : i < count = omega (arith, lt, length_bits count (mask / 2 ^ at)) in
    let place : i + at ≡ at + i = omega arith in
    get_bits count (mask / 2 ^ at) i d low ∙ ap (λ x. x == 1) (bit_at_shr mask at i) ∙ ap (is_set mask) place
    ∙ sym (get_or-take count (drop at (bits n mask)) i d low ∙ get_or-drop at (bits n mask) i d ∙ get_bits n mask (at + i) d (omega arith)))

-- The lowest 16 bits of a word.
pub bits_low : (word : ℕ) → bits 16 (word % 65536) ≡ bits 16 word
bits_low word = bits_same 16 (word % 65536) word (λ i lt. bit_at_mod word 16 i lt)

-- Values of a part of the rows are appended, by the bits of a word.
module _ {A : Type 0} (n mask : ℕ) (ts fs : List A) (trues : length ts ≡ n) (falses : length fs ≡ n) (items : List A) (capacity at : ℕ) (out : Vec A Global) (was : IsFilled items (chosen_to (bits n mask) ts fs at) capacity out) where
  pub word_next : (count next : ℕ) (new : Vec A Global) (xs ys : List A) → at + count ≤ n → at + count ≡ next → xs ≡ take count (drop at ts) → ys ≡ take count (drop at fs)
      → new.items ≡ out.items ++ choose (bits count (mask / 2 ^ at)) xs ys → vec_capacity new ≡ vec_capacity out → IsFilled items (chosen_to (bits n mask) ts fs next) capacity new
  word_next count next new xs ys le is_next xs_are ys_are appended room =
      let block = choose (bits count (mask / 2 ^ at)) xs ys in
      subst (λ j. IsFilled items (chosen_to (bits n mask) ts fs j) capacity new) is_next
      (filled_next n (bits n mask) ts fs (word_long n mask ts fs trues falses) items capacity at out was count new block appended room
      (λ i. choose (bits_part n mask at count le i) (xs_are i) (ys_are i)))

  pub word_all : at ≡ n → out.items ≡ items ++ choose (bits n mask) ts fs
  word_all all = filled_all n (bits n mask) ts fs (word_long n mask ts fs trues falses) items capacity at out was all

-- The bits of a block of the bytes of a mask.
pub block_bits : (ms : List Bool) (bytes : List ℕ) (s n block width word : ℕ) → ms ≡ bits_from bytes s n → 64 * block + width ≤ n → word ≡ word_of (bits_from (drop (8 * block) bytes) s width)
    → bits width word ≡ take width (drop (64 * block) ms)
block_bits ms bytes s n block width word is le made =
    let part = take width (drop (64 * block) (bits_from bytes s n)) in
    let size : length part ≡ width = length_part (64 * block) width (bits_from bytes s n) (omega (arith, le, length_bits_from bytes s n)) in
    ap (bits width) (made ∙ block_word bytes s n block width le) ∙ ap (λ k. bits k (word_of part)) (sym size) ∙ bits_word_of part ∙ ap (λ l. take width (drop (64 * block) l)) (sym is)
