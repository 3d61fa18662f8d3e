-- If-then-else of lists, part by part.
use Rattle.sel_ternary.proofs.Common.{common_steps, ◌≡◌, ℕ, suc, ◌+◌, ◌/◌, ◌^◌, ◌<◌, ◌≤◌, ◌∙◌, sym, refl, ap, arith, List, [], ◌∷◌, ◌++◌, length, get_or, take}
use Rattle.sel_ternary.proofs.Common.{drop, replicate, map, Bool, if◌then◌else◌, eq-eqb, append_assoc, append-nil, length-replicate, get_or-replicate, take_all}
use Rattle.sel_ternary.proofs.Common.{bits, is_set, length_bits, get_bits, choose, broadcast_true, broadcast_false, broadcast_both, true, false, Value}
use Rattle.sel_ternary.proofs.Common.{chosen_rows, first_row}
use Rattle.sel_ternary.specs.Chosen.{SideFits, spread_rows}
use Rattle.std.proofs.lemmas.{List.length-take, List.drop-drop, List.set_split, List.take-append-le, List.get_or_default, Bool.ne_eqb, Nat.Bits.shr_and_one}
use Rattle.std.proofs.{Common.◌≢◌, Common.bit_and, Math.ListN.set, Math.ListN.get_or-map, Math.Seq.take-add, Math.Seq.drop-cons, Math.Seq.drop-append-add}
use Rattle.std.specs.Int.{bit_at}

-- ---- a broadcast value equals the list that repeats it

pub repeated_then : {A : Type 0} → (ms : List Bool) (x : A) (fs : List A) → broadcast_true ms x fs ≡ choose ms (replicate (length ms) x) fs
repeated_then [] x fs = refl
repeated_then (m ∷ ms) x [] = refl
repeated_then (m ∷ ms) x (f ∷ fs) = ap (λ l. (if m then x else f) ∷ l) (repeated_then ms x fs)

pub repeated_otherwise : {A : Type 0} → (ms : List Bool) (ts : List A) (x : A) → broadcast_false ms ts x ≡ choose ms ts (replicate (length ms) x)
repeated_otherwise [] ts x = refl
repeated_otherwise (m ∷ ms) [] x = refl
repeated_otherwise (m ∷ ms) (t ∷ ts) x = ap (λ l. (if m then t else x) ∷ l) (repeated_otherwise ms ts x)

pub repeated_both : {A : Type 0} → (ms : List Bool) (x y : A) → broadcast_both ms x y ≡ choose ms (replicate (length ms) x) (replicate (length ms) y)
repeated_both [] x y = refl
repeated_both (m ∷ ms) x y = ap (λ l. (if m then x else y) ∷ l) (repeated_both ms x y)

pub two_equal : {A : Type 0} → (ms : List Bool) (x : A) → broadcast_both ms x x ≡ replicate (length ms) x
two_equal [] x = refl
two_equal (true ∷ ms) x = ap (λ l. x ∷ l) (two_equal ms x)
two_equal (false ∷ ms) x = ap (λ l. x ∷ l) (two_equal ms x)

-- Columns and broadcast rows, told as one function of the mask over the rows of both sides.
pub chosen_spread : (t f : Bool) (ms : List Bool) (ts fs : List Value) → chosen_rows t f ms ts fs ≡ choose ms (spread_rows t ms ts) (spread_rows f ms fs)
chosen_spread true true ms ts fs = refl
chosen_spread true false ms ts fs = repeated_otherwise ms ts (first_row fs) ∙ ap (choose ms ts) (sym (two_equal ms (first_row fs)))
chosen_spread false true ms ts fs = repeated_then ms (first_row ts) fs ∙ ap (λ l. choose ms l fs) (sym (two_equal ms (first_row ts)))
chosen_spread false false ms ts fs = repeated_both ms (first_row ts) (first_row fs) ∙ (λ i. choose ms (sym (two_equal ms (first_row ts)) i) (sym (two_equal ms (first_row fs)) i))

pub length-spread : (is_column : Bool) (ms : List Bool) (vs : List Value) → SideFits is_column (length vs) (length ms) → length (spread_rows is_column ms vs) ≡ length ms
length-spread true ms vs fits = fits
length-spread false ms vs fits = ap length (two_equal ms (first_row vs)) ∙ length-replicate (length ms) (first_row vs)

-- ---- parts

pub length-choose : {A : Type 0} → (ms : List Bool) (ts fs : List A) → length ts ≡ length ms → length fs ≡ length ms → length (choose ms ts fs) ≡ length ms
length-choose [] ts fs p q = refl
length-choose (m ∷ ms) (t ∷ ts) (f ∷ fs) p q = omega (arith, length-choose ms ts fs (omega arith) (omega arith))
length-choose ms ts fs p q = absurd (omega arith)

pub choose-append : {A : Type 0} → (ms ns : List Bool) (ts us fs gs : List A) → length ts ≡ length ms → length fs ≡ length ms
    → choose (ms ++ ns) (ts ++ us) (fs ++ gs) ≡ choose ms ts fs ++ choose ns us gs
choose-append [] ns [] us [] gs p q = refl
choose-append (m ∷ ms) ns (t ∷ ts) us (f ∷ fs) gs p q = ap (λ l. (if m then t else f) ∷ l) (choose-append ms ns ts us fs gs (omega arith) (omega arith))
choose-append ms ns ts us fs gs p q = absurd (omega arith)

-- The lists are as long as the mask.
pub record AsLong {A : Type 0} (n : ℕ) (ms : List Bool) (ts fs : List A) : Type 0 where
  pub mask : length ms ≡ n
  pub trues : length ts ≡ n
  pub falses : length fs ≡ n

-- Lists that are as long as the bits of a word.
pub word_long : {A : Type 0} → (n mask : ℕ) (ts fs : List A) → length ts ≡ n → length fs ≡ n → AsLong n (bits n mask) ts fs
word_long n mask ts fs trues falses = record { mask = length_bits n mask; trues = trues; falses = falses }

-- The if-then-else of the first entries.
abbrev pub chosen_to : {A : Type 0} → List Bool → List A → List A → ℕ → List A
chosen_to ms ts fs at = choose (take at ms) (take at ts) (take at fs)

module _ {A : Type 0} (n : ℕ) (ms : List Bool) (ts fs : List A) (long : AsLong n ms ts fs) (at : ℕ) where
  low : length (take at ts) ≡ length (take at ms)
  low = omega (arith, length-take at ts, length-take at ms, long.mask, long.trues)

  lower : length (take at fs) ≡ length (take at ms)
  lower = omega (arith, length-take at fs, length-take at ms, long.mask, long.falses)

  pub length-chosen_to : at ≤ n → length (chosen_to ms ts fs at) ≡ at
  length-chosen_to le = omega (arith, length-choose (take at ms) (take at ts) (take at fs) low lower, length-take at ms, long.mask)

  -- The next entries follow.
  pub chosen_more : (count : ℕ) → chosen_to ms ts fs (at + count) ≡ chosen_to ms ts fs at ++ choose (take count (drop at ms)) (take count (drop at ts)) (take count (drop at fs))
  chosen_more count =
      (λ i. choose (take-add at count ms i) (take-add at count ts i) (take-add at count fs i))
      ∙ choose-append (take at ms) (take count (drop at ms)) (take at ts) (take count (drop at ts)) (take at fs) (take count (drop at fs)) low lower

  pub chosen_end : at ≡ n → chosen_to ms ts fs at ≡ choose ms ts fs
  chosen_end all = λ i. choose (take_all at ms (omega (arith, all, long.mask)) i) (take_all at ts (omega (arith, all, long.trues)) i) (take_all at fs (omega (arith, all, long.falses)) i)

-- The first entries of the output are those of the if-then-else, the others are unchanged.
pub record IsChosen {A : Type 0} (ms : List Bool) (ts fs base : List A) (at : ℕ) (out : List A) : Type 0 where
  pub begun : out ≡ chosen_to ms ts fs at ++ drop at base

module _ {A : Type 0} (n : ℕ) (ms : List Bool) (ts fs base : List A) (long : AsLong n ms ts fs) (at : ℕ) (out : List A) (was : IsChosen ms ts fs base at out) where
  -- The next entries are written.
  pub chosen_block : (count : ℕ) (new : List A) → at + count ≤ n → new ≡ take at out ++ (choose (take count (drop at ms)) (take count (drop at ts)) (take count (drop at fs)) ++ drop (at + count) out)
      → IsChosen ms ts fs base (at + count) new
  chosen_block count new le is =
      let front = chosen_to ms ts fs at in
      let block = choose (take count (drop at ms)) (take count (drop at ts)) (take count (drop at fs)) in
      let size : length front ≡ at = length-chosen_to n ms ts fs long at (omega arith) in
      let kept : take at out ≡ front = ap (take at) was.begun ∙ take-append-le at front (drop at base) (omega arith) ∙ take_all at front (omega arith) in
      let rest : drop (at + count) out ≡ drop (at + count) base =
      ap (drop (at + count)) was.begun ∙ ap (λ k. drop (k + count) (front ++ drop at base)) (sym size) ∙ drop-append-add front (drop at base) count ∙ drop-drop count at base in
      record { begun = is ∙ (λ i. kept i ++ (block ++ rest i)) ∙ sym (append_assoc front block (drop (at + count) base)) ∙ ap (λ l. l ++ drop (at + count) base) (sym (chosen_more n ms ts fs long at count)) }

  -- All entries are written.
  pub chosen_all : length base ≡ n → at ≡ n → out ≡ choose ms ts fs
  chosen_all size all = grind (arith, common_steps, at, chosen_end, long, append-nil)

-- The one entry of a list at a position.
one_of : {A : Type 0} → (l : List A) (i : ℕ) (x : A) → i < length l → x ≡ get_or l i x → take 1 (drop i l) ≡ x ∷ []
one_of l i x lt is = ap (take 1) (drop-cons l i x lt) ∙ ap (λ y. y ∷ []) (sym is)

-- ---- the entries of one word

-- Lists of n entries.
pub record Rows {A : Type 0} (n : ℕ) (ts fs out : List A) : Type 0 where
  pub trues : length ts ≡ n
  pub falses : length fs ≡ n
  pub places : length out ≡ n

-- The if-then-else of one entry, by the bits of a word.
pub row_block : {A : Type 0} → (n mask : ℕ) (ts fs : List A) (i : ℕ) (t f x : A) → length ts ≡ n → length fs ≡ n → i < n → t ≡ get_or ts i t → f ≡ get_or fs i f → x ≡ (if is_set mask i then t else f)
    → choose (take 1 (drop i (bits n mask))) (take 1 (drop i ts)) (take 1 (drop i fs)) ≡ x ∷ []
row_block n mask ts fs i t f x trues falses lt t_is f_is x_is =
    let many = length_bits n mask in
    let one_bit : take 1 (drop i (bits n mask)) ≡ is_set mask i ∷ [] = one_of (bits n mask) i (is_set mask i) (omega arith) (sym (get_bits n mask i (is_set mask i) lt)) in
    (λ j. choose (one_bit j) (one_of ts i t (omega arith) t_is j) (one_of fs i f (omega arith) f_is j)) ∙ ap (λ y. y ∷ []) (sym x_is)

-- One more entry is written, by the bits of a word.
pub chosen_row : {A : Type 0} → (n mask : ℕ) (ts fs base out : List A) (i : ℕ) (t f x : A) → Rows n ts fs out → i < n → IsChosen (bits n mask) ts fs base i out
    → t ≡ get_or ts i t → f ≡ get_or fs i f → x ≡ (if is_set mask i then t else f) → IsChosen (bits n mask) ts fs base (i + 1) (set out i x)
chosen_row n mask ts fs base out i t f x rows lt was t_is f_is x_is =
    let block = row_block n mask ts fs i t f x rows.trues rows.falses lt t_is f_is x_is in
    let next : suc i ≡ i + 1 = omega arith in
    chosen_block n (bits n mask) ts fs base (word_long n mask ts fs rows.trues rows.falses) i out was 1 (set out i x) (omega arith)
    (set_split out i x (omega (arith, rows.places)) ∙ ap (λ k. take i out ++ (x ∷ drop k out)) next ∙ ap (λ l. take i out ++ (l ++ drop (i + 1) out)) (sym block))

-- The entry for a bit that a shift moves to the lowest position of its word.
pub bit_takes_first : {A : Type 0} → (mask i : ℕ) (t f x : A) → bit_and (mask / 2 ^ i) 1 ≡ 1 → x ≡ t → x ≡ (if is_set mask i then t else f)
bit_takes_first mask i t f x is e = e ∙ ap (λ b. if b then t else f) (sym (eq-eqb (bit_at mask i) 1 (sym (shr_and_one mask i) ∙ is)))

pub bit_takes_second : {A : Type 0} → (mask i : ℕ) (t f x : A) → bit_and (mask / 2 ^ i) 1 ≢ 1 → x ≡ f → x ≡ (if is_set mask i then t else f)
bit_takes_second mask i t f x is e = e ∙ ap (λ b. if b then t else f) (sym (ne_eqb (bit_at mask i) 1 (λ one. is (shr_and_one mask i ∙ one))))

-- A repeated value, at a position.
pub repeated_at : {A : Type 0} → (n i : ℕ) (x : A) → i < n → x ≡ get_or (replicate n x) i x
repeated_at n i x lt = sym (get_or-replicate n i x x lt)

-- All entries are written, by the bits of a word.
module _ {A : Type 0} (n mask : ℕ) (base out : List A) (i : ℕ) (size : length base ≡ n) (all : i ≡ n) where
  pub all_rows : (ts fs : List A) → length ts ≡ n → length fs ≡ n → IsChosen (bits n mask) ts fs base i out → out ≡ choose (bits n mask) ts fs
  all_rows ts fs trues falses was = chosen_all n (bits n mask) ts fs base (word_long n mask ts fs trues falses) i out was size all

  pub all_rows_or_one : (ts : List A) (y : A) → length ts ≡ n → IsChosen (bits n mask) ts (replicate n y) base i out → out ≡ broadcast_false (bits n mask) ts y
  all_rows_or_one ts y trues was = grind (arith, common_steps, all_rows, length-replicate, repeated_otherwise, mask, length_bits)

  pub all_rows_of_two : (x y : A) → IsChosen (bits n mask) (replicate n x) (replicate n y) base i out → out ≡ broadcast_both (bits n mask) x y
  all_rows_of_two x y was = grind (arith, common_steps, all_rows, length-replicate, repeated_both, mask, length_bits)

-- The same for entries that are read from the lists, those of the second one mapped.
pub chosen_mapped : {A B : Type 0} → (n mask : ℕ) (f : B → A) (ts : List A) (fs : List B) (base out : List A) (i : ℕ) (d x : A) (e : B) → Rows n ts (map f fs) out → i < n → IsChosen (bits n mask) ts (map f fs) base i out
    → x ≡ (if is_set mask i then get_or ts i d else f (get_or fs i e)) → IsChosen (bits n mask) ts (map f fs) base (i + 1) (set out i x)
chosen_mapped n mask f ts fs base out i d x e rows lt was x_is =
    let t = get_or ts i d in
    let y = f (get_or fs i e) in
    chosen_row n mask ts (map f fs) base out i t y x rows lt was (get_or_default ts i d t (omega (arith, rows.trues))) (sym (get_or-map f fs i e) ∙ get_or_default (map f fs) i (f e) y (omega (arith, rows.falses))) x_is
