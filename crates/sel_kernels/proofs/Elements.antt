-- Elements of lists, as rows of a single child at optional positions, and lists of one element.
use Rattle.sel_kernels.proofs.Common.{common_steps, ◌≡◌, ◌<◌, ◌+◌, ◌-◌, ℕ, ℤ, pos, negsuc, Bool, true, false, All, List, [], ◌∷◌, ◌++◌, length, map, get_or}
use Rattle.sel_kernels.proofs.Common.{Option, Some, None, refl, ap, sym, subst, ◌∙◌, arith, Bor, nat_lt, if◌then◌else◌, not, IfSome, range_with_len}
use Rattle.sel_kernels.proofs.Common.{ltb-true, length-map, map-append, get_or-map, length-map-range_with_len, get_or-map-range_with_len}
use Rattle.sel_kernels.proofs.Common.{map-range_with_len_more, place, Value, Null, pick, PickFits, IsPicked, element_at, child_pick, option_map}
use Rattle.sel_kernels.proofs.Common.{option_copied, is_some, is_none, drop, get_or-drop, get_or-take, map-map, take, ◌≤◌, fill_by_all, Box, Global}
use Rattle.sel_kernels.proofs.Common.{list_any, length-take, length-drop, list_any_at, max_rows, Bits, hidden, number_value, valid_at, rows_between, rows}
use Rattle.sel_kernels.proofs.Common.{well_formed, Number, Column, LargeList, length-rows, listed_values, list_get, lacks_place, child_place, places_in}
use Rattle.sel_kernels.proofs.Common.{unwrap_or, true≢false, ◌*◌, ◌&&◌, get_or-range_with_len, length-range_with_len, PolarsError, ComputeError, type_of}
use Rattle.sel_kernels.proofs.Common.{is_null, has_blocks, exceeded_limits, IsLimitOrMemory, place_of, fixed_get, at_each, entry_place, zero-add, IsRising}
use Rattle.sel_kernels.proofs.Common.{list_of, pieces, length-pieces, get_or-pieces, few_rows}
use Rattle.sel_arrow.proofs.NestedRows.{has_lists, HasLists, lists_formed}
use Rattle.sel_gather.proofs.ListParts.{list_null, list_row, OfBlock, block_null, block_row}
use Rattle.sel_kernels.specs.{Lists.element_of, Lists.unit_lists, Steps.entry_places}
use Rattle.std.proofs.lemmas.{Bool.false_from_ne_true, List.get_or-replicate, List.drop_more, List.take-append-drop, List.Folds.list_any-append, List.Folds.list_any_none}
use Rattle.std.proofs.Common.{◌||◌}
use Rattle.sel_kernels.specs.Entries.{is_get_error, entry_of, lacks_entry, IsGetError}
use Rattle.sel_arrow.specs.{NestedArrays.block_column, Nested.list_rows, declared.fixed_size_list.FixedSizeListArray.FixedSizeListArray}

-- ---- a loop over positions

pub mapped_count : {A B : Type 0} (g : A → B) (f : ℕ → A) (k : ℕ) → length (map g (map f (range_with_len 0 k))) ≡ k
mapped_count g f k = length-map (map f (range_with_len 0 k)) g ∙ length-map-range_with_len f 0 k

pub mapped_at : {A B : Type 0} (g : A → B) (f : ℕ → A) (n k : ℕ) (a : A) (d : B) → k < length (map g (map f (range_with_len 0 n))) → get_or (map g (map f (range_with_len 0 n))) k d ≡ g (f k)
mapped_at g f n k a d below =
    let inside : k < n = omega (arith, below, mapped_count g f n) in
    let there : k < length (map f (range_with_len 0 n)) = omega (arith, inside, length-map-range_with_len f 0 n) in
    let same : 0 + k ≡ k = omega arith in
    get_or-map g (map f (range_with_len 0 n)) k a d there ∙ ap g (get_or-map-range_with_len f 0 n k k a inside same)

pub mapped_more : {A B : Type 0} (g : A → B) (f : ℕ → A) (old new : List B) (k : ℕ) (b : B) → new ≡ old ++ b ∷ [] → b ≡ g (f k) → old ≡ map g (map f (range_with_len 0 k)) → new ≡ map g (map f (range_with_len 0 (k + 1)))
mapped_more g f old new k b e is so_far = rw (e, so_far, is, map-range_with_len_more f 0 k k (zero-add k), map-append g (map f (range_with_len 0 k)))

-- ---- the rows at the positions

picked : (ys : List Value) (ps : List (Option ℕ)) → pick Null (ys ∷ []) (map child_pick ps) ≡ map (element_at ys) ps
picked ys [] = refl
picked ys (None ∷ ps) = ap (λ l. Null ∷ l) (picked ys ps)
picked ys (Some i ∷ ps) = ap (λ l. get_or ys i Null ∷ l) (picked ys ps)

pub picked_each : (ys : List Value) (f : ℕ → Option ℕ) (n : ℕ) (values : List Value) → length values ≡ n → ((k : ℕ) → k < n → get_or values k Null ≡ element_at ys (f k)) →
    pick Null (ys ∷ []) (map child_pick (map f (range_with_len 0 n))) ≡ values
picked_each ys f n values long each =
    picked ys (map f (range_with_len 0 n)) ∙ map-map (element_at ys) f (range_with_len 0 n) ∙ sym (fill_by_all (λ k. element_at ys (f k)) values n Null long each)

-- A position, if it is present, is less than n.
abbrev pub PlaceBelow : ℕ → Option ℕ → Type 0
PlaceBelow n place = IfSome place (λ i. i < n)

one_fits : (ys : List Value) (p : Option ℕ) → PlaceBelow (length ys) p → PickFits (ys ∷ []) (child_pick p)
one_fits ys None h = tt
one_fits ys (Some i) h = h

pub places_fit : (ys : List Value) (f : ℕ → Option ℕ) (n : ℕ) → ((k : ℕ) → k < n → PlaceBelow (length ys) (f k)) → All (PickFits (ys ∷ [])) (map child_pick (map f (range_with_len 0 n)))
places_fit ys f n h k d below = grind (arith, common_steps, mapped_at, one_fits, mapped_count)

one_picked : (p : Option ℕ) → is_none p ≡ false → IsPicked (child_pick p)
one_picked None e = absurd cc
one_picked (Some i) e = tt

pub places_picked : (f : ℕ → Option ℕ) (n : ℕ) → ((k : ℕ) → k < n → is_none (f k) ≡ false) → All IsPicked (map child_pick (map f (range_with_len 0 n)))
places_picked f n there k d below = grind (arith, common_steps, mapped_at, one_picked, mapped_count)

-- ---- a position in a part of the child, none if the row of the part is null

pub element_valid : (b : Bool) (ys : List Value) (start n : ℕ) (place : Option ℕ) (value : Value) → PlaceBelow n place → (b ≡ false → value ≡ Null) → (b ≡ true → value ≡ element_at (take n (drop start ys)) place) →
    element_at ys (if b then option_map (λ i. start + i) place else None) ≡ value
element_valid true ys start n None value below null there = sym (there refl)
element_valid true ys start n (Some i) value below null there = sym (there refl ∙ get_or-take n (drop start ys) i Null below ∙ get_or-drop start ys i Null)
element_valid false ys start n place value below null there = sym (null refl)

pub below_valid : (b : Bool) (start n m : ℕ) (place : Option ℕ) → PlaceBelow n place → (b ≡ true → start + n ≤ m) → PlaceBelow m (if b then option_map (λ i. start + i) place else None)
below_valid true start n m (Some i) below room = omega (arith, below, room refl)
below_valid b start n m place below room = tt

pub there_valid : (b : Bool) (start : ℕ) (place : Option ℕ) → b ≡ true → is_none place ≡ false → is_none (if b then option_map (λ i. start + i) place else None) ≡ false
there_valid true start (Some i) e there = refl
there_valid b start place e there = cc

-- ---- positions in bounds

below_if : (b : Bool) (i n : ℕ) → (b ≡ true → i < n) → PlaceBelow n (if b then Some i else None)
below_if true i n h = h refl
below_if false i n h = tt

-- The position of an index is in bounds.
pub place_below : (index : ℤ) (n : ℕ) → PlaceBelow n (place index n)
place_below (pos i) n = below_if (nat_lt i n) i n (λ e. ltb-true i n e)
place_below (negsuc i) n = below_if (nat_lt i n) (n - (i + 1)) n (λ e. let h : i < n = ltb-true i n e in omega arith)

-- A check whether an option is none.
pub none_is : {A : Type 0} (o : Option A) (b : Bool) → is_some o ≡ not b → is_none o ≡ b
none_is o true e = ap not e
none_is o false e = ap not e

pub is_gone : {A : Type 0} (o : Option A) → is_some o ≡ false → o ≡ None
is_gone None e = refl
is_gone (Some x) e = absurd cc

-- Copying the value of an option keeps it present.
pub copied_there : {A : Type 0} (o : Option (Bor A)) → is_some (option_copied o) ≡ is_some o
copied_there None = refl
copied_there (Some x) = refl

-- ---- elements of lists with 64-bit offsets

pub places_long : (offsets : List ℕ) (validity : Option Bits) (index : ℤ) → length (map child_pick (places_in offsets validity index)) ≡ rows_between offsets
places_long offsets validity index = mapped_count child_pick (child_place offsets validity index) (rows_between offsets)

-- A column of the positions, with 0 in each null slot.
pub places_shown : (ps : List (Option ℕ)) → hidden (map is_some ps) (map (λ i. Number (pos i)) (map (λ p. unwrap_or p 0) ps)) ≡ map (number_value pos) ps
places_shown [] = refl
places_shown (None ∷ ps) = ap (λ l. Null ∷ l) (places_shown ps)
places_shown (Some i ∷ ps) = ap (λ l. Number (pos i) ∷ l) (places_shown ps)

module _ (offsets : List ℕ) (values : Box Column Global) (validity : Option Bits) (formed : well_formed (LargeList offsets values validity) ≡ true) (index : ℤ) where
  abbrev lists : Column
  lists = LargeList offsets values validity

  inside_lists : (k : ℕ) → k < rows_between offsets → k < length (rows lists)
  inside_lists k h = omega (arith, h, length-rows lists)

  -- The start and the length of list k.
  abbrev start : ℕ → ℕ
  start k = get_or offsets k 0

  abbrev count : ℕ → ℕ
  count k = get_or offsets (k + 1) 0 - get_or offsets k 0

  abbrev part : ℕ → List Value
  part k = take (count k) (drop (start k) (rows values.value))

  part_long : (k : ℕ) → k < rows_between offsets → valid_at validity k ≡ true → length (part k) ≡ count k
  part_long k h e =
      let has = list_row lists offsets values validity refl formed k (inside_lists k h) e in
      omega (arith, length-take (count k) (drop (start k) (rows values.value)), length-drop (start k) (rows values.value), has.ordered, has.inside)

  element_is : (k : ℕ) → k < rows_between offsets → element_at (rows values.value) (child_place offsets validity index k) ≡ element_of index (get_or (rows lists) k Null)
  element_is k h =
      element_valid (valid_at validity k) (rows values.value) (start k) (count k) (place index (count k)) (element_of index (get_or (rows lists) k Null)) (place_below index (count k))
      (λ e. ap (element_of index) (list_null lists offsets values validity refl formed k (inside_lists k h) e))
      (λ e. ap (element_of index) (list_row lists offsets values validity refl formed k (inside_lists k h) e).row
      ∙ ap (λ l. element_at l (place index (length l))) (listed_values (part k)) ∙ ap (λ n. element_at (part k) (place index n)) (part_long k h e))

  -- A child row that is in bounds.
  pub place_small : (at : ℤ) (k p : ℕ) → k < rows_between offsets → valid_at validity k ≡ true → place at (count k) ≡ Some p → start k + p < 4294967296
  place_small at k p h e is =
      let has = list_row lists offsets values validity refl formed k (inside_lists k h) e in
      let below : p < count k = subst (PlaceBelow (count k)) is (place_below at (count k)) in
      omega (arith, below, has.ordered, has.inside, has.few)

  pub lists_fit : All (PickFits (rows values.value ∷ [])) (map child_pick (places_in offsets validity index))
  lists_fit =
      places_fit (rows values.value) (child_place offsets validity index) (rows_between offsets)
      (λ k h. below_valid (valid_at validity k) (start k) (count k) (length (rows values.value)) (place index (count k)) (place_below index (count k))
      (λ e. let has = list_row lists offsets values validity refl formed k (inside_lists k h) e in omega (arith, has.ordered, has.inside)))

  pub lists_got : pick Null (rows values.value ∷ []) (map child_pick (places_in offsets validity index)) ≡ list_get (rows lists) index
  lists_got =
      picked_each (rows values.value) (child_place offsets validity index) (rows_between offsets) (list_get (rows lists) index) (length-map (rows lists) (element_of index) ∙ length-rows lists)
      (λ k h. get_or-map (element_of index) (rows lists) k Null Null (inside_lists k h) ∙ sym (element_is k h))

  pub few_lists : rows_between offsets ≤ max_rows
  few_lists = (has_lists offsets values.value validity formed).few

  pub lacks_is : (k : ℕ) → k < rows_between offsets → valid_at validity k ≡ true → is_none (place index (count k)) ≡ lacks_place index (get_or (rows lists) k Null)
  lacks_is k h e =
      ap (λ n. is_none (place index n)) (sym (part_long k h e))
      ∙ ap (λ l. is_none (place index (length l))) (sym (listed_values (part k)))
      ∙ sym (ap (lacks_place index) (list_row lists offsets values validity refl formed k (inside_lists k h) e).row)

  pub lacks_none : (k : ℕ) → k < rows_between offsets → valid_at validity k ≡ false → false ≡ lacks_place index (get_or (rows lists) k Null)
  lacks_none k h e = sym (ap (lacks_place index) (list_null lists offsets values validity refl formed k (inside_lists k h) e))

  -- If no list is null and the index is in bounds for each, no row reference is null.
  pub all_there : validity ≡ None → list_any (lacks_place index) (rows lists) ≡ false → All IsPicked (map child_pick (places_in offsets validity index))
  all_there whole none =
      places_picked (child_place offsets validity index) (rows_between offsets)
      (λ k inside.
      let valid : valid_at validity k ≡ true = ap (λ v. valid_at v k) whole in
      let lacks = lacks_place index (get_or (rows lists) k Null) in
      let there = false_from_ne_true lacks (λ e. true≢false (sym (list_any_at (lacks_place index) (rows lists) k Null (inside_lists k inside) e) ∙ none)) in
      there_valid (valid_at validity k) (start k) (place index (count k)) valid (lacks_is k inside valid ∙ there))

-- ---- elements of fixed-size lists

pub place_of_below : (w : ℕ) (v : Value) → PlaceBelow w (place_of w v)
place_of_below w (Number index) = place_below index w
place_of_below w v = tt

-- ---- a check of the first entries of a list

pub any_of_part : {A : Type 0} (p : A → Bool) (xs : List A) (k : ℕ) → list_any p (take k xs) ≡ true → list_any p xs ≡ true
any_of_part p xs k found =
    ap (list_any p) (sym (take-append-drop k xs)) ∙ list_any-append p (take k xs) (drop k xs) ∙ ap (λ b. b || list_any p (drop k xs)) found

-- ---- a check of each of n positions

any_at : (p : ℕ → Bool) (n k : ℕ) → k < n → p k ≡ true → list_any p (range_with_len 0 n) ≡ true
any_at p n k h e =
    let at : get_or (range_with_len 0 n) k 0 ≡ k = omega (arith, get_or-range_with_len 0 n k 0 h) in
    list_any_at p (range_with_len 0 n) k 0 (omega (arith, h, length-range_with_len 0 n)) (ap p at ∙ e)

none_at : (p : ℕ → Bool) (n : ℕ) → ((k : ℕ) → k < n → p k ≡ false) → list_any p (range_with_len 0 n) ≡ false
none_at p n h =
    list_any_none p (range_with_len 0 n)
    (λ k d lt. let inside : k < n = omega (arith, lt, length-range_with_len 0 n) in let at : get_or (range_with_len 0 n) k d ≡ k = omega (arith, get_or-range_with_len 0 n k d inside) in ap p at ∙ h k inside)

module _ (arr : FixedSizeListArray) where
  abbrev column : Column
  column = block_column arr

  abbrev below : List Value
  below = rows arr.values.value

  pub inside_rows : (k : ℕ) → k < arr.len → k < length (rows column)
  inside_rows k h = omega (arith, h, length-rows column)

  -- There are as many rows as lists.
  pub long_rows : length (rows column) ≡ arr.len
  long_rows = length-rows column

  pub lists_few : arr.len ≤ max_rows
  lists_few = (has_blocks arr.size arr.len arr.values.value arr.validity arr.formed).few

  null_row : (k : ℕ) → k < arr.len → valid_at arr.validity k ≡ false → get_or (rows column) k Null ≡ Null
  null_row k h e = block_null column arr.size arr.len arr.values arr.validity refl arr.formed k (inside_rows k h) e

  valid_row : (k : ℕ) → k < arr.len → valid_at arr.validity k ≡ true → OfBlock arr.size column k
  valid_row k h e = block_row column arr.size arr.len arr.values arr.validity refl arr.formed k (inside_rows k h) e

  -- A child row that is in bounds.
  pub entry_small : (k i : ℕ) → k < arr.len → valid_at arr.validity k ≡ true → i < arr.size → k * arr.size + i < 4294967296
  entry_small k i h e inside = let has = valid_row k h e in omega (arith, inside, has.inside, has.few)

  pub entry_is : (index : Value) (k : ℕ) → k < arr.len → element_at below (entry_place arr k (place_of arr.size index)) ≡ entry_of arr.size (get_or (rows column) k Null) index
  entry_is index k h =
      let place = place_of arr.size index in
      element_valid (valid_at arr.validity k) below (k * arr.size) arr.size place (entry_of arr.size (get_or (rows column) k Null) index) (place_of_below arr.size index)
      (λ e. ap (λ row. entry_of arr.size row index) (null_row k h e))
      (λ e. ap (λ row. entry_of arr.size row index) (valid_row k h e).row ∙ ap (λ l. element_at l place) (listed_values (take arr.size (drop (k * arr.size) below))))

  pub entries_fit : (indices : List Value) → All (PickFits (below ∷ [])) (map child_pick (entry_places arr indices))
  entries_fit indices =
      places_fit below (λ k. entry_place arr k (place_of arr.size (get_or indices k Null))) arr.len
      (λ k h. below_valid (valid_at arr.validity k) (k * arr.size) arr.size (length below) _ (place_of_below arr.size (get_or indices k Null)) (λ e. (valid_row k h e).inside))

  pub entries_long : (indices : List Value) → length (map child_pick (entry_places arr indices)) ≡ arr.len
  entries_long indices = mapped_count child_pick (λ k. entry_place arr k (place_of arr.size (get_or indices k Null))) arr.len

  pub entries_got : (indices : List Value) → pick Null (below ∷ []) (map child_pick (entry_places arr indices)) ≡ fixed_get (rows column) arr.size indices
  entries_got indices =
      let g = λ (k : ℕ). entry_of arr.size (get_or (rows column) k Null) (get_or indices k Null) in
      picked_each below (λ k. entry_place arr k (place_of arr.size (get_or indices k Null))) arr.len (fixed_get (rows column) arr.size indices)
      (length-map-range_with_len g 0 (length (rows column)) ∙ long_rows)
      (λ k h. get_or-map-range_with_len g 0 (length (rows column)) k k Null (inside_rows k h) (omega arith) ∙ sym (entry_is (get_or indices k Null) k h))

  -- If no list is null and each index is in bounds, no row reference is null.
  pub entries_there : (indices : List Value) → arr.validity ≡ None → ((k : ℕ) → k < arr.len → is_none (place_of arr.size (get_or indices k Null)) ≡ false) → All IsPicked (map child_pick (entry_places arr indices))
  entries_there indices whole there =
      places_picked (λ k. entry_place arr k (place_of arr.size (get_or indices k Null))) arr.len
      (λ k h. there_valid (valid_at arr.validity k) (k * arr.size) (place_of arr.size (get_or indices k Null)) (ap (λ v. valid_at v k) whole) (there k h))

  -- ---- out of bounds

  abbrev lacks : List Value → ℕ → Bool
  lacks indices k = lacks_entry arr.size (get_or (rows column) k Null) (get_or indices k Null)

  pub outside_at : (indices : List Value) (null_on_oob : Bool) (k : ℕ) → null_on_oob ≡ false → k < arr.len → valid_at arr.validity k ≡ true → is_none (place_of arr.size (get_or indices k Null)) ≡ true
      → true ≡ is_get_error null_on_oob arr indices
  outside_at indices null_on_oob k asked h e none =
      let here : lacks indices k ≡ true = ap (λ row. not (is_null row) && is_none (place_of arr.size (get_or indices k Null))) (valid_row k h e).row ∙ none in
      sym (ap (λ b. not b && list_any (lacks indices) (range_with_len 0 (length (rows column)))) asked ∙ any_at (lacks indices) (length (rows column)) k (inside_rows k h) here)

  lacks_not : (indices : List Value) (k : ℕ) → k < arr.len → (valid_at arr.validity k ≡ true → is_none (place_of arr.size (get_or indices k Null)) ≡ false) → lacks indices k ≡ false
  lacks_not indices k h there = by (valid_at arr.validity k) refl
    where
      by : (b : Bool) → valid_at arr.validity k ≡ b → lacks indices k ≡ false
      by false e = ap (λ row. not (is_null row) && is_none (place_of arr.size (get_or indices k Null))) (null_row k h e)
      by true e = ap (λ row. not (is_null row) && is_none (place_of arr.size (get_or indices k Null))) (valid_row k h e).row ∙ there e

  pub all_inside : (indices : List Value) (null_on_oob : Bool) → null_on_oob ≡ false → ((k : ℕ) → k < arr.len → valid_at arr.validity k ≡ true → is_none (place_of arr.size (get_or indices k Null)) ≡ false)
      → false ≡ is_get_error null_on_oob arr indices
  all_inside indices null_on_oob asked there =
      sym (ap (λ b. not b && list_any (lacks indices) (range_with_len 0 (length (rows column)))) asked
      ∙ none_at (lacks indices) (length (rows column)) (λ k h. let inside : k < arr.len = omega (arith, h, long_rows) in lacks_not indices k inside (there k inside)))

  -- The same index for each list.
  pub each_place : (index : ℤ) (k : ℕ) → k < arr.len → place_of arr.size (get_or (at_each arr index) k Null) ≡ place_of arr.size (Number index)
  each_place index k h = ap (place_of arr.size) (get_or-replicate arr.len k (Number index) Null h)

  -- An error of the gather is permitted if no index is out of bounds.
  pub refused_so : (indices : List Value) (null_on_oob : Bool) (fault : PolarsError) → is_get_error null_on_oob arr indices ≡ false
      → IsLimitOrMemory (exceeded_limits (type_of arr.values.value) (fixed_get (rows column) arr.size indices)) fault → IsGetError null_on_oob arr indices fault
  refused_so indices null_on_oob ComputeError e h = absurd h
  refused_so indices null_on_oob fault e h = (e, h)

-- ---- lists of one element, one for each row

count_at : (n k : ℕ) → k < n → get_or (range_with_len 0 n) k 0 ≡ k
count_at n k h = omega (arith, get_or-range_with_len 0 n k 0 h)

pub more_numbers : (k : ℕ) → map pos (range_with_len 0 k) ++ pos k ∷ [] ≡ map pos (range_with_len 0 (k + 1))
more_numbers k =
    let same : 0 + k ≡ k = omega arith in
    sym (map-range_with_len_more pos 0 k k same)

pub counts_rise : (n : ℕ) → IsRising (range_with_len 0 (n + 1))
counts_rise n =
    let long = length-range_with_len 0 (n + 1) in
    record {
      some = omega (arith, long);
      rising = λ j k le below. (let h : k < n + 1 = omega (arith, below, long) in let i : j < n + 1 = omega (arith, le, h) in omega (arith, le, count_at (n + 1) j i, count_at (n + 1) k h));
    }

pub counts_between : (n : ℕ) → rows_between (range_with_len 0 (n + 1)) ≡ n
counts_between n = omega (arith, length-range_with_len 0 (n + 1))

unit_at : (ys : List Value) (k : ℕ) → k < length ys → get_or (pieces (range_with_len 0 (length ys + 1)) ys) k [] ≡ get_or ys k Null ∷ []
unit_at ys k h =
    let offsets = range_with_len 0 (length ys + 1) in
    let inside : k < rows_between offsets = omega (arith, h, counts_between (length ys)) in
    let start = count_at (length ys + 1) k (omega arith) in
    let end = count_at (length ys + 1) (k + 1) (omega arith) in
    let one : (k + 1) - k ≡ 1 = omega arith in
    rw (get_or-pieces offsets ys k inside, start, end, one, drop_more ys k Null h)

pub units : (ys : List Value) → list_rows (range_with_len 0 (length ys + 1)) ys None ≡ unit_lists ys
units ys =
    let n = length ys in
    let offsets = range_with_len 0 (n + 1) in
    let unit = λ (v : Value). list_of (v ∷ []) in
    let long : length (pieces offsets ys) ≡ n = length-pieces offsets ys ∙ counts_between n in
    fill_by_all (λ k. unit (get_or ys k Null)) (map list_of (pieces offsets ys)) n Null (length-map (pieces offsets ys) list_of ∙ long)
    (λ k h. get_or-map list_of (pieces offsets ys) k [] Null (omega (arith, h, long)) ∙ ap list_of (unit_at ys k h))
    ∙ sym (fill_by_all (λ k. unit (get_or ys k Null)) (unit_lists ys) n Null (length-map ys unit) (λ k h. get_or-map unit ys k Null Null h))

units_have : (values : Column) → well_formed values ≡ true → HasLists (range_with_len 0 (length (rows values) + 1)) values None
units_have values formed =
    let n = length (rows values) in
    let long = length-range_with_len 0 (n + 1) in
    let count = length-rows values in
    let last : length (range_with_len 0 (n + 1)) - 1 ≡ n = counts_between n in
    record {
      rising = counts_rise n;
      few = omega (arith, counts_between n, count, few_rows values formed);
      ends = omega (arith, count, ap (λ k. get_or (range_with_len 0 (n + 1)) k 0) last, count_at (n + 1) n (omega arith));
      covered = λ v there. absurd cc;
      child = formed;
    }

-- The column of these lists is well-formed.
pub units_formed : (offsets : List ℕ) (column : Column) (values : Box Column Global) → offsets ≡ range_with_len 0 (length (rows column) + 1) → values.value ≡ column → well_formed column ≡ true → well_formed (LargeList offsets values None) ≡ true
units_formed offsets column values is same formed =
    let there : offsets ≡ range_with_len 0 (length (rows values.value) + 1) = is ∙ ap (λ c. range_with_len 0 (length (rows c) + 1)) (sym same) in
    subst (λ l. well_formed (LargeList l values None) ≡ true) (sym there)
    (lists_formed (range_with_len 0 (length (rows values.value) + 1)) values.value None (units_have values.value (ap well_formed same ∙ formed)))

pub units_rows : (offsets : List ℕ) (column : Column) (values : Box Column Global) → offsets ≡ range_with_len 0 (length (rows column) + 1) → values.value ≡ column → rows (LargeList offsets values None) ≡ unit_lists (rows column)
units_rows offsets column values is same = grind (arith, common_steps, units)

pub ruleset counted_numbers = (length-map-range_with_len)
