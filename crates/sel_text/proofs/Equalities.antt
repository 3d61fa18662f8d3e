-- Equality of rows.
use Rattle.std.proofs.Common.{◌≡◌, ◌≢◌, ℕ, ◌+◌, ◌-◌, ◌≤◌, ◌<◌, Bool, List, [], ◌∷◌, ◌++◌, length, take, drop, map, refl, ap, sym, ◌∙◌, arith, get_or, length-take, length-drop, ◌↔◌, IsTrue, bytes_eq}
use Rattle.std.proofs.lemmas.Slice.Eq.{bytes_eq-Decides}
use Rattle.std.proofs.lemmas.Simd.{map-map}
use Rattle.sel_text.proofs.Common.{nat_tests, common_steps, slice_range, take_more, get_or-drop, get_or-take, take_all, rows, Column, list_of, struct_at, Value, Null, Bytes, Items, Tuple, values_of, listed}

-- The result of comparing the stored bytes is whether the rows are equal.
pub bytes_told : (r : Bool) (bytes seen named : List ℕ) (v : Value) → r ≡ bytes_eq bytes seen → seen ≡ named → v ≡ Bytes named → (IsTrue r ↔ (Bytes bytes ≡ v))
bytes_told r bytes seen named v tested is there =
    let told = bytes_eq-Decides bytes seen in (
      λ p. ap Bytes (told.0 (sym tested ∙ p) ∙ is) ∙ sym there,
      λ e. tested ∙ told.1 (let same : Bytes bytes ≡ Bytes named = e ∙ there in cc),
    )

-- The same for a row with these bytes.
pub bytes_shown : {P : Type 0} (shown v w : Value) → (P ↔ (shown ≡ w)) → shown ≡ v → (P ↔ (v ≡ w))
bytes_shown shown v w told is = (λ p. sym is ∙ told.0 p, λ e. told.1 (is ∙ e))

-- ---- lists of values

pub list_back : (vs : List Value) → listed (values_of vs) ≡ vs
list_back [] = refl
list_back (v ∷ vs) = ap (λ l. v ∷ l) (list_back vs)

abbrev parts_of : Value → List Value
parts_of (Items vs) = listed vs
parts_of (Tuple vs) = listed vs
parts_of v = []

pub list_of_back : (vs ws : List Value) → list_of vs ≡ list_of ws → vs ≡ ws
list_of_back vs ws e = sym (list_back vs) ∙ ap parts_of e ∙ list_back ws

-- ---- parts of two lists

module _ {A : Type 0} (xs ys : List A) (a b : ℕ) where
  pub part_more : (k : ℕ) (d : A) → a + k < length xs → b + k < length ys → take k (drop a xs) ≡ take k (drop b ys) →
      get_or xs (a + k) d ≡ get_or ys (b + k) d → take (k + 1) (drop a xs) ≡ take (k + 1) (drop b ys)
  part_more k d in_xs in_ys before here =
      let first = take_more (drop a xs) k d (rw length-drop (omega arith)) ∙ ap (λ x. take k (drop a xs) ++ x ∷ []) (get_or-drop a xs k d) in
      let second = take_more (drop b ys) k d (rw length-drop (omega arith)) ∙ ap (λ y. take k (drop b ys) ++ y ∷ []) (get_or-drop b ys k d) in
      first ∙ ap (λ l. l ++ get_or xs (a + k) d ∷ []) before ∙ ap (λ y. take k (drop b ys) ++ y ∷ []) here ∙ sym second

  pub part_at : (n k : ℕ) (d : A) → k < n → take n (drop a xs) ≡ take n (drop b ys) → get_or xs (a + k) d ≡ get_or ys (b + k) d
  part_at n k d small same = grind (arith, nat_tests, get_or-take, get_or-drop)

part_count : {A : Type 0} (xs : List A) (a b : ℕ) → b ≤ length xs → length (slice_range xs a b) ≡ b - a
part_count xs a b inside = rw (length-take, length-drop) (omega arith)

-- Parts with different lengths are not equal.
pub lists_differ : (xs ys : List Value) (a b from to : ℕ) → b ≤ length xs → to ≤ length ys → b - a ≢ to - from → list_of (slice_range xs a b) ≡ list_of (slice_range ys from to) → ⊥
lists_differ xs ys a b from to in_xs in_ys differ same =
    differ (sym (part_count xs a b in_xs) ∙ ap length (list_of_back _ _ same) ∙ part_count ys from to in_ys)

-- Parts that differ at a position are not equal.
pub lists_differ_at : (xs ys : List Value) (a b from to k : ℕ) → b - a ≡ to - from → k < b - a → get_or xs (a + k) Null ≢ get_or ys (from + k) Null →
    list_of (slice_range xs a b) ≡ list_of (slice_range ys from to) → ⊥
lists_differ_at xs ys a b from to k long small differ same = grind (arith, nat_tests, list_of_back, part_at)

-- Parts that are equal at each position are equal.
pub lists_same : (xs ys : List Value) (a b from to k : ℕ) → b - a ≡ to - from → k ≡ b - a → take k (drop a xs) ≡ take k (drop from ys) →
    list_of (slice_range xs a b) ≡ list_of (slice_range ys from to)
lists_same xs ys a b from to k long all same = grind (arith, common_steps)

-- The whole list as a part.
pub whole_part : {A : Type 0} (xs : List A) (n : ℕ) → n ≡ length xs → slice_range xs 0 n ≡ xs
whole_part xs n all = ap (λ k. take k xs) (let whole : n - 0 ≡ n = omega arith in whole) ∙ take_all n xs (omega (arith, all))

-- ---- structs

-- The value of a field at a position, and that of each field.
abbrev pub entry_at : ℕ → Column → Value
entry_at place field = get_or (rows field) place Null

abbrev pub entries_at : ℕ → List Column → List Value
entries_at place fields = map (entry_at place) fields

tuple_is : (place : ℕ) (fields : List Column) → struct_at (map rows fields) place ≡ Tuple (values_of (entries_at place fields))
tuple_is place fields = ap (λ l. Tuple (values_of l)) (map-map (λ field. get_or field place Null) rows fields)

pub tuples_same : (place at : ℕ) (fields others : List Column) → entries_at place fields ≡ entries_at at others → struct_at (map rows fields) place ≡ struct_at (map rows others) at
tuples_same place at fields others same = tuple_is place fields ∙ ap (λ l. Tuple (values_of l)) same ∙ sym (tuple_is at others)

pub same_tuples : (place at : ℕ) (fields others : List Column) → struct_at (map rows fields) place ≡ struct_at (map rows others) at → entries_at place fields ≡ entries_at at others
same_tuples place at fields others same =
    let one : Tuple (values_of (entries_at place fields)) ≡ Tuple (values_of (entries_at at others)) = sym (tuple_is place fields) ∙ same ∙ tuple_is at others in
    sym (list_back (entries_at place fields)) ∙ ap parts_of one ∙ list_back (entries_at at others)
