-- Elements of fixed-size lists of integers without validities.
use Rattle.sel_kernels.proofs.Common.{◌≡◌, ◌<◌, ◌≤◌, ◌+◌, ◌*◌, ◌++◌, ◌∷◌, ◌∙◌, ℕ, ℤ, pos, suc, List, [], Option, Some, None, length, map, get_or, ap, sym, subst, arith}
use Rattle.sel_kernels.proofs.Common.{Bits, Value, Null, Number, element_at, number_rows, place, range_with_len, map-append, get_or-map, map-range_with_len_more}
use Rattle.sel_kernels.proofs.Common.{zero-add, suc-mul, mul-le, option_map, length-number_rows, length-map-range_with_len, get_or-map-range_with_len, fill_by_all}
use Rattle.sel_kernels.proofs.Common.{rows, length-rows, has_blocks, fixed_get, valid_at, if◌then◌else◌}
use Rattle.sel_kernels.proofs.Elements.{PlaceBelow, entry_is, inside_rows, long_rows, place_below}
use Rattle.sel_kernels.specs.{BareElements.bare_place, BareElements.bare_elements, Entries.entry_of}
use Rattle.sel_arrow.specs.{NestedArrays.block_column, declared.fixed_size_list.FixedSizeListArray.FixedSizeListArray}

-- The element of a list is a row of the child.
pub inside_child : (k n size i m : ℕ) (index : ℤ) → k < n → place index size ≡ Some i → n * size ≡ m → k * size + i < m
inside_child k n size i m index h found is =
    let below : i < size = subst (PlaceBelow size) found (place_below index size) in
    let fits : k * size + size ≤ n * size = omega (arith, suc-mul k size, mul-le (suc k) size n size (omega (arith, h)) (omega arith)) in
    omega (arith, fits, below, is)

-- The element of one more list.
pub one_more : {T : Type 0} (number : T → ℤ) (from : List T) (size : ℕ) (indices : List ℤ) (old new : List T) (k i : ℕ) (x : T) →
    place (get_or indices k (pos 0)) size ≡ Some i → k * size + i < length from → x ≡ get_or from (k * size + i) x → new ≡ old ++ x ∷ [] →
    number_rows number old None ≡ map (λ j. element_at (number_rows number from None) (bare_place size indices j)) (range_with_len 0 k) →
    number_rows number new None ≡ map (λ j. element_at (number_rows number from None) (bare_place size indices j)) (range_with_len 0 (k + 1))
one_more {T} number from size indices old new k i x found inside here is so_far =
    let value = λ (y : T). Number (number y) in
    let element = λ (j : ℕ). element_at (map value from) (bare_place size indices j) in
    let row : value x ≡ element k =
    ap value here ∙ sym (get_or-map value from (k * size + i) x Null inside) ∙ sym (ap (λ p. element_at (map value from) (option_map (λ j. k * size + j) p)) found) in
    ap (map value) is ∙ map-append value old (x ∷ []) ∙ ap (λ l. l ++ value x ∷ []) so_far
    ∙ ap (λ v. map element (range_with_len 0 k) ++ v ∷ []) row ∙ sym (map-range_with_len_more element 0 k k (zero-add k))

-- There are as many elements as indices.
pub elements_long : {T : Type 0} (number : T → ℤ) (values : List T) (child : List Value) (size : ℕ) (indices : List ℤ) → number_rows number values None ≡ bare_elements child size indices → length values ≡ length indices
elements_long number values child size indices is =
    sym (length-number_rows number values None) ∙ ap length is ∙ length-map-range_with_len (λ k. element_at child (bare_place size indices k)) 0 (length indices)

module _ (arr : FixedSizeListArray) where
  -- There are as many indices as lists.
  pub indices_long : (indices : List ℤ) (validity : Option Bits) → length (number_rows (λ i. i) indices validity) ≡ length (rows (block_column arr)) → length indices ≡ arr.len
  indices_long indices validity is = omega (arith, is, length-number_rows (λ (i : ℤ). i) indices validity, long_rows arr)

  pub child_long : length (rows arr.values.value) ≡ arr.len * arr.size
  child_long = length-rows arr.values.value ∙ (has_blocks arr.size arr.len arr.values.value arr.validity arr.formed).fills

  -- These are the elements of the lists if neither lists nor indices are null.
  pub elements_got : (indices : List ℤ) (validity : Option Bits) → arr.validity ≡ None → validity ≡ None → length indices ≡ arr.len →
      bare_elements (rows arr.values.value) arr.size indices ≡ fixed_get (rows (block_column arr)) arr.size (number_rows (λ i. i) indices validity)
  elements_got indices validity whole all long =
      let lists = rows (block_column arr) in
      let element = λ (k : ℕ). element_at (rows arr.values.value) (bare_place arr.size indices k) in
      let entry = λ (k : ℕ). entry_of arr.size (get_or lists k Null) (get_or (number_rows (λ i. i) indices validity) k Null) in
      let shown : number_rows (λ i. i) indices validity ≡ map (λ (i : ℤ). Number i) indices = ap (number_rows (λ (i : ℤ). i) indices) all in
      ap (λ n. map element (range_with_len 0 n)) long
      ∙ sym (fill_by_all element (fixed_get lists arr.size (number_rows (λ i. i) indices validity)) arr.len Null (length-map-range_with_len entry 0 (length lists) ∙ long_rows arr)
      (λ k h.
      let index : get_or (number_rows (λ i. i) indices validity) k Null ≡ Number (get_or indices k (pos 0)) =
      ap (λ l. get_or l k Null) shown ∙ get_or-map (λ (i : ℤ). Number i) indices k (pos 0) Null (omega (arith, h, long))
      in
      get_or-map-range_with_len entry 0 (length lists) k k Null (inside_rows arr k h) (omega arith)
      ∙ ap (entry_of arr.size (get_or lists k Null)) index
      ∙ sym (entry_is arr (Number (get_or indices k (pos 0))) k h)
      ∙ ap (λ (v : Option Bits). element_at (rows arr.values.value) (if valid_at v k then bare_place arr.size indices k else None)) whole))
