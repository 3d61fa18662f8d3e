-- Rows under a validity.
use Rattle.std.proofs.Common.{◌≡◌, ◌≢◌, ℕ, zero, suc, ◌+◌, ◌-◌, ◌≤◌, ◌<◌, ℤ, Bool, true, false, List, [], ◌∷◌, length, take, drop, map, Option, Some, None, replicate, refl, ap, sym, ◌∙◌, arith, get_or, length-take, length-drop, if◌then◌else◌}
use Rattle.std.proofs.lemmas.List.{take-replicate, drop-replicate}
use Rattle.sel_arrow.proofs.Common.{ForSome, option_map, length-map, get_or-map, take-map, drop-map, length-replicate, Bits, Value, Null, Truth, Number, is_valid, validities, hidden, masked, number_rows, bool_rows, Covers, valid_at, part_of, Shape, of_null, IsValidityOf}

-- ---- values under a list of booleans

length-hidden : (bs : List Bool) (vs : List Value) → length (hidden bs vs) ≡ length vs
length-hidden (b ∷ bs) (v ∷ vs) = ap suc (length-hidden bs vs)
length-hidden bs vs = cc

take-hidden : (n : ℕ) (bs : List Bool) (vs : List Value) → take n (hidden bs vs) ≡ hidden (take n bs) (take n vs)
take-hidden (suc n) (b ∷ bs) (v ∷ vs) = ap (λ rest. (if b then v else Null) ∷ rest) (take-hidden n bs vs)
take-hidden n bs vs = cc

hidden_none : (bs : List Bool) → [] ≡ hidden bs []
hidden_none [] = refl
hidden_none (b ∷ bs) = refl

drop-hidden : (n : ℕ) (bs : List Bool) (vs : List Value) → drop n (hidden bs vs) ≡ hidden (drop n bs) (drop n vs)
drop-hidden (suc n) (b ∷ bs) (v ∷ vs) = drop-hidden n bs vs
drop-hidden n bs vs = grind (arith, hidden_none)

get_or-hidden : (bs : List Bool) (vs : List Value) (i : ℕ) → i < length bs → get_or (hidden bs vs) i Null ≡ (if get_or bs i false then get_or vs i Null else Null)
get_or-hidden (b ∷ bs) (v ∷ vs) (suc i) h = get_or-hidden bs vs i (omega arith)
get_or-hidden bs vs i h = grind arith

-- If no value is null, the booleans are the validity.
validities-hidden : (bs : List Bool) (vs : List Value) → validities vs ≡ replicate (length vs) true → length bs ≡ length vs → validities (hidden bs vs) ≡ bs
validities-hidden (b ∷ bs) (v ∷ vs) all h = grind (arith, (validities-hidden bs vs (cc) (omega arith)))
validities-hidden bs vs all h = cc

-- ---- values under a validity

pub length-masked : (validity : Option Bits) (vs : List Value) → length (masked validity vs) ≡ length vs
length-masked validity vs = grind (arith, length-hidden)

get_or-masked : (validity : Option Bits) (vs : List Value) (i : ℕ) → i < length vs → Covers validity (length vs) → get_or (masked validity vs) i Null ≡ (if valid_at validity i then get_or vs i Null else Null)
get_or-masked validity vs i h covers = grind (arith, get_or-hidden)

-- A row whose validity bit is false.
pub masked_null : (validity : Option Bits) (vs : List Value) (i : ℕ) → valid_at validity i ≡ false → i < length vs → Covers validity (length vs) → get_or (masked validity vs) i Null ≡ Null
masked_null validity vs i e h covers = get_or-masked validity vs i h covers ∙ ap (λ b. if b then get_or vs i Null else Null) e

-- A row whose validity bit is true.
pub masked_valid : (validity : Option Bits) (vs : List Value) (i : ℕ) → valid_at validity i ≡ true → i < length vs → Covers validity (length vs) → get_or (masked validity vs) i Null ≡ get_or vs i Null
masked_valid validity vs i e h covers = get_or-masked validity vs i h covers ∙ ap (λ b. if b then get_or vs i Null else Null) e

-- Except for the type of null columns, the validity agrees with the rows under it.
pub tells-masked : (s : Shape) (validity : Option Bits) (vs : List Value) → s ≢ of_null → validities vs ≡ replicate (length vs) true → Covers validity (length vs) → IsValidityOf s validity (masked validity vs)
tells-masked of_null validity vs other all covers = absurd (other refl)
tells-masked s None vs other all covers = all
tells-masked s (Some validity) vs other all covers = validities-hidden validity.bits vs all (covers validity refl)

-- A part of the rows is the part of the values under the part of the validity.
pub part-masked : (validity : Option Bits) (vs : List Value) (off len : ℕ) → take len (drop off (masked validity vs)) ≡ masked (option_map (part_of off len) validity) (take len (drop off vs))
part-masked validity vs off len = grind (arith, drop-hidden, take-hidden)

-- ---- values of one type under a validity

-- Values of one type are not null.
validities-map : {A : Type 0} (f : A → Value) → ((x : A) → is_valid (f x) ≡ true) → (xs : List A) → validities (map f xs) ≡ replicate (length (map f xs)) true
validities-map f valid [] = refl
validities-map f valid (x ∷ xs) = cc (valid x, validities-map f valid xs)

covers_map : {A : Type 0} (f : A → Value) → (xs : List A) (validity : Option Bits) → Covers validity (length xs) → Covers validity (length (map f xs))
covers_map f xs validity covers = λ v there. rw length-map (covers v there)

inside_map : {A : Type 0} (f : A → Value) → (xs : List A) (i : ℕ) → i < length xs → i < length (map f xs)
inside_map f xs i h = rw length-map h

pub length-mapped : {A : Type 0} (f : A → Value) → (xs : List A) (validity : Option Bits) → length (masked validity (map f xs)) ≡ length xs
length-mapped f xs validity = rw (length-masked, length-map) refl

pub null_mapped : {A : Type 0} (f : A → Value) → (xs : List A) (validity : Option Bits) (i : ℕ) → valid_at validity i ≡ false → i < length xs → Covers validity (length xs) → get_or (masked validity (map f xs)) i Null ≡ Null
null_mapped f xs validity i e h covers = masked_null validity (map f xs) i e (inside_map f xs i h) (covers_map f xs validity covers)

pub valid_mapped : {A : Type 0} (f : A → Value) → (xs : List A) (validity : Option Bits) (i : ℕ) (d : A) → valid_at validity i ≡ true → i < length xs → Covers validity (length xs) → get_or (masked validity (map f xs)) i Null ≡ f (get_or xs i d)
valid_mapped f xs validity i d e h covers = masked_valid validity (map f xs) i e (inside_map f xs i h) (covers_map f xs validity covers) ∙ get_or-map f xs i d Null h

pub tells-mapped : {A : Type 0} (f : A → Value) → ((x : A) → is_valid (f x) ≡ true) → (s : Shape) (xs : List A) (validity : Option Bits) → s ≢ of_null → Covers validity (length xs) → IsValidityOf s validity (masked validity (map f xs))
tells-mapped f valid s xs validity other covers = tells-masked s validity (map f xs) other (validities-map f valid xs) (covers_map f xs validity covers)

pub part-mapped : {A : Type 0} (f : A → Value) → (xs : List A) (validity : Option Bits) (off len : ℕ) → masked (option_map (part_of off len) validity) (map f (take len (drop off xs))) ≡ take len (drop off (masked validity (map f xs)))
part-mapped f xs validity off len = simp (drop-map, take-map, part-masked)

-- ---- integers and booleans

abbrev number_of : {T : Type 0} → (T → ℤ) → T → Value
number_of number x = Number (number x)

pub length-number_rows : {T : Type 0} (number : T → ℤ) → (xs : List T) (validity : Option Bits) → length (number_rows number xs validity) ≡ length xs
length-number_rows number xs validity = length-mapped (number_of number) xs validity

pub length-truth_rows : (bits : List Bool) (validity : Option Bits) → length (bool_rows bits validity) ≡ length bits
length-truth_rows bits validity = length-mapped Truth bits validity

pub null_number : {T : Type 0} (number : T → ℤ) → (xs : List T) (validity : Option Bits) (i : ℕ) → valid_at validity i ≡ false → i < length xs → Covers validity (length xs) → get_or (number_rows number xs validity) i Null ≡ Null
null_number number xs validity i e h covers = null_mapped (number_of number) xs validity i e h covers

pub valid_number : {T : Type 0} (number : T → ℤ) → (xs : List T) (validity : Option Bits) (i : ℕ) (x : T) → valid_at validity i ≡ true → i < length xs → Covers validity (length xs) → x ≡ get_or xs i x → get_or (number_rows number xs validity) i Null ≡ Number (number x)
valid_number number xs validity i x e h covers is = valid_mapped (number_of number) xs validity i x e h covers ∙ ap (number_of number) (sym is)

pub null_truth : (bits : List Bool) (validity : Option Bits) (i : ℕ) → valid_at validity i ≡ false → i < length bits → Covers validity (length bits) → get_or (bool_rows bits validity) i Null ≡ Null
null_truth bits validity i e h covers = null_mapped Truth bits validity i e h covers

pub valid_truth : (bits : List Bool) (validity : Option Bits) (i : ℕ) → valid_at validity i ≡ true → i < length bits → Covers validity (length bits) → get_or (bool_rows bits validity) i Null ≡ Truth (get_or bits i false)
valid_truth bits validity i e h covers = valid_mapped Truth bits validity i false e h covers

pub tells-numbers : {T : Type 0} (s : Shape) (number : T → ℤ) → (xs : List T) (validity : Option Bits) → s ≢ of_null → Covers validity (length xs) → IsValidityOf s validity (number_rows number xs validity)
tells-numbers s number xs validity other covers = tells-mapped (number_of number) (λ x. refl) s xs validity other covers

pub tells-truths : (s : Shape) (bits : List Bool) (validity : Option Bits) → s ≢ of_null → Covers validity (length bits) → IsValidityOf s validity (bool_rows bits validity)
tells-truths s bits validity other covers = tells-mapped Truth (λ x. refl) s bits validity other covers

pub tells-nulls : (n : ℕ) → validities (replicate n Null) ≡ replicate (length (replicate n Null)) false
tells-nulls zero = refl
tells-nulls (suc n) = ap (λ l. false ∷ l) (tells-nulls n)

pub part-number_rows : {T : Type 0} (number : T → ℤ) → (xs : List T) (validity : Option Bits) (off len : ℕ) → number_rows number (take len (drop off xs)) (option_map (part_of off len) validity) ≡ take len (drop off (number_rows number xs validity))
part-number_rows number xs validity off len = part-mapped (number_of number) xs validity off len

pub part-truth_rows : (bits : List Bool) (validity : Option Bits) (off len : ℕ) → bool_rows (take len (drop off bits)) (option_map (part_of off len) validity) ≡ take len (drop off (bool_rows bits validity))
part-truth_rows bits validity off len = part-mapped Truth bits validity off len

pub part-replicate : {A : Type 0} (x : A) → (n off len : ℕ) → off + len ≤ n → replicate len x ≡ take len (drop off (replicate n x))
part-replicate x n off len h = sym (ap (take len) (drop-replicate off n x) ∙ take-replicate len (n - off) x (omega arith))

pub covers_numbers : {T : Type 0} (number : T → ℤ) → (xs : List T) (old new : Option Bits) → Covers new (length (number_rows number xs old)) → Covers new (length xs)
covers_numbers number xs old new covers = λ v there. rw length-number_rows at (covers v there)

pub covers_truths : (bits : List Bool) (old new : Option Bits) → Covers new (length (bool_rows bits old)) → Covers new (length bits)
covers_truths bits old new covers = λ v there. rw length-truth_rows at (covers v there)

-- ---- lengths

pub length-part : {A : Type 0} → (xs : List A) (off len : ℕ) → off + len ≤ length xs → length (take len (drop off xs)) ≡ len
length-part {A} xs off len h = omega (arith, length-take len (drop off xs), length-drop off xs)

pub part_covers : (validity : Option Bits) (n off len : ℕ) → Covers validity n → off + len ≤ n → Covers (option_map (part_of off len) validity) len
part_covers validity n off len covers h = grind (arith, length-part)

pub part_within : (validity : Option Bits) (n off len : ℕ) → Covers validity n → off + len ≤ n → ForSome validity (λ v. off + len ≤ length v.bits)
part_within validity n off len covers h = λ v there. omega (arith, covers v there)

pub ruleset columns = (null_number, valid_number, null_truth, valid_truth, length-number_rows, length-truth_rows, length-replicate, tells-numbers, tells-truths, tells-nulls, part-number_rows, part-truth_rows, covers_numbers, covers_truths, part-replicate, length-part, part_covers, part_within)
