-- Struct rows at indices, field by field.
use Rattle.sel_kernels.proofs.Common.{common_steps, ◌≡◌, All, ℕ, zero, suc, ◌+◌, ◌≤◌, ◌<◌, pos, Bool, true, false, List, [], ◌∷◌, length, map, get_or}
use Rattle.sel_kernels.proofs.Common.{Option, Some, None, Vec, Global, inl, inr, refl, ap, sym, ◌∙◌, subst, arith, if◌then◌else◌, range_with_len, ltb-true}
use Rattle.sel_kernels.proofs.Common.{length-map, get_or-map, max_rows, Bits, Limit, hidden, number_rows, valid_at, struct_at, rows, type_of, well_formed}
use Rattle.sel_kernels.proofs.Common.{IsField, Shapes, of_struct, shapes_of, Value, Null, Number, is_valid, validities, Column, Struct, and_first}
use Rattle.sel_kernels.proofs.Common.{and_second, length-tuple_rows, rows-Struct, has_fields, fields_make, type_of-Struct, part_at, bits_for, finished}
use Rattle.sel_kernels.proofs.Common.{exceeded_limits, exceeded_in_parts, found, pick_of, take_rows, is_within, all_within, exceeded_in_taken, live_index}
use Rattle.sel_kernels.proofs.Common.{valid_pick, length-range_with_len, zero-add, fill_by_all, get_or-range_with_len, list_all-map}
use Rattle.sel_arrow.specs.Shape.{shape_list}
use Rattle.sel_gather.{specs.Children.field, specs.Steps.parts_of, proofs.Below.listed_shapes, proofs.Layouts.rows_tuples, proofs.TupleRows.field_row}
use Rattle.sel_gather.proofs.{FieldsOf.any_default, FieldsOf.field_found, Rebuilt.IsTuple, Rebuilt.picked_all, Rebuilt.tuples_rebuilt}
use Rattle.sel_kernels.proofs.Takes.{covers_for, length-pick, row_under, all_pass}

-- ---- indices with a null for each null row

shown_hidden : (validity : Option Bits) (bits : List Bool) (places : List ℕ) →
    hidden (map (valid_pick validity) (map pick_of (hidden bits (map (λ x. Number (pos x)) places)))) (map (λ x. Number (pos x)) places) ≡ map (live_index validity) (hidden bits (map (λ x. Number (pos x)) places))
shown_hidden validity [] (place ∷ places) = ap (λ l. live_index validity (Number (pos place)) ∷ l) (shown_hidden validity [] places)
shown_hidden validity (true ∷ bits) (place ∷ places) = ap (λ l. live_index validity (Number (pos place)) ∷ l) (shown_hidden validity bits places)
shown_hidden validity (false ∷ bits) (place ∷ places) = ap (λ l. Null ∷ l) (shown_hidden validity bits places)
shown_hidden validity bits places = refl

-- Under the validity of the rows at the indices, the places are the indices of valid rows.
pub live_rows : (validity named live : Option Bits) (places : List ℕ) →
    bits_for (length (number_rows pos places named)) live ≡ map (valid_pick validity) (map pick_of (number_rows pos places named)) → length (number_rows pos places named) ≡ length places →
    number_rows pos places live ≡ map (live_index validity) (number_rows pos places named)
live_rows validity None live places valid long =
    finished (λ (x : ℕ). Number (pos x)) places live _ (length (number_rows pos places None)) valid (sym long) ∙ shown_hidden validity [] places
live_rows validity (Some named) live places valid long =
    finished (λ (x : ℕ). Number (pos x)) places live _ (length (number_rows pos places (Some named))) valid (sym long) ∙ shown_hidden validity named.bits places

one_within : (n : ℕ) (validity : Option Bits) (index : Value) → is_within n index ≡ true → is_within n (live_index validity index) ≡ true
one_within n validity index within = by (valid_pick validity (pick_of index))
  where
    by : (b : Bool) → is_within n (if b then index else Null) ≡ true
    by true = within
    by false = refl

pub live_within : (n : ℕ) (validity : Option Bits) (indices : List Value) → all_within n indices ≡ true → all_within n (map (live_index validity) indices) ≡ true
live_within n validity indices within = list_all-map (is_within n) (live_index validity) indices ∙ all_pass (is_within n) _ (one_within n validity) indices within

-- ---- the rows of the fields

module _ (n : ℕ) (fields : Vec Column Global) (validity : Option Bits) (formed : well_formed (Struct n fields validity) ≡ true) where
  abbrev whole : Column
  whole = Struct n fields validity

  abbrev types : Shapes
  types = shapes_of (map type_of fields.items)

  pub length-whole : length (rows whole) ≡ n
  length-whole = ap length (rows-Struct n fields validity) ∙ length-tuple_rows n (map rows fields.items) validity

  -- The row at an index by the validity.
  row_here : (i : ℕ) → i < n → get_or (rows whole) i Null ≡ (if valid_at validity i then struct_at (map rows fields.items) i else Null)
  row_here i inside =
      let long = length-range_with_len 0 n in
      ap (λ l. get_or l i Null) (rows-Struct n fields validity)
      ∙ row_under (struct_at (map rows fields.items)) validity (range_with_len 0 n) 0 i (omega (arith, inside, long))
      (λ v there. (has_fields n fields validity formed).covered v there ∙ sym long)
      ∙ ap (λ j. if valid_at validity i then struct_at (map rows fields.items) j else Null) (get_or-range_with_len 0 n i 0 inside ∙ zero-add i)

  valid_here : (i : ℕ) → i < n → is_valid (get_or (rows whole) i Null) ≡ valid_at validity i
  valid_here i inside = ap is_valid (row_here i inside) ∙ by (valid_at validity i)
    where
      by : (b : Bool) → is_valid (if b then struct_at (map rows fields.items) i else Null) ≡ b
      by true = refl
      by false = refl

  kind : type_of whole ≡ of_struct types
  kind = type_of-Struct n fields validity

  many : length (shape_list types) ≡ length fields.items
  many = ap length (listed_shapes (map type_of fields.items)) ∙ length-map fields.items type_of

  field_one : (k : ℕ) → k < length fields.items → (index : Value) → is_within n index ≡ true →
      found Null (rows (field k whole) ∷ []) (pick_of (live_index validity index)) ≡ part_at k (found Null (rows whole ∷ []) (pick_of index))
  field_one k h (Number (pos i)) within = by (valid_at validity i) refl
    where
      inside : i < n
      inside = ltb-true i n within

      by : (b : Bool) → valid_at validity i ≡ b → found Null (rows (field k whole) ∷ []) (pick_of (if b then Number (pos i) else Null)) ≡ part_at k (get_or (rows whole) i Null)
      by true e = field_row whole types k i kind (omega (arith, h, many)) (valid_here i inside ∙ e)
      by false e = sym (ap (part_at k) (row_here i inside ∙ ap (λ b. if b then struct_at (map rows fields.items) i else Null) e))
  field_one k h index within = refl

  -- The rows of a field at the indices of valid rows are the values of the struct rows.
  pub field_taken : (k : ℕ) → k < length fields.items → (indices : List Value) → all_within n indices ≡ true →
      take_rows (rows (field k whole)) (map (live_index validity) indices) ≡ map (part_at k) (take_rows (rows whole) indices)
  field_taken k h [] within = refl
  field_taken k h (index ∷ indices) within =
      (λ i. field_one k h index (and_first _ _ within) i ∷ field_taken k h indices (and_second _ _ within) i)

  taken_valid : (indices : List Value) → all_within n indices ≡ true → validities (take_rows (rows whole) indices) ≡ map (valid_pick validity) (map pick_of indices)
  taken_valid [] within = refl
  taken_valid (Number (pos i) ∷ indices) within = (λ j. valid_here i (ltb-true i n (and_first _ _ within)) j ∷ taken_valid indices (and_second _ _ within) j)
  taken_valid (index ∷ indices) within = ap (λ l. false ∷ l) (taken_valid indices (and_second (is_within n index) (all_within n indices) within))

  field_at : (k : ℕ) → k < length fields.items → get_or fields.items k whole ≡ field k whole
  field_at k below =
      let here = get_or fields.items k whole in
      field_found whole k n fields validity here refl below (any_default fields.items k whole here below)

  -- The rows of each field at the indices of valid rows, by position.
  fields_taken : (taken : List (List Value)) (indices : List Value) → all_within n indices ≡ true →
      taken ≡ map (λ c. take_rows (rows c) (map (live_index validity) indices)) fields.items → taken ≡ parts_of (length fields.items) (take_rows (rows whole) indices)
  fields_taken taken indices within is =
      let of = λ (c : Column). take_rows (rows c) (map (live_index validity) indices) in
      fill_by_all (λ j. map (part_at j) (take_rows (rows whole) indices)) taken (length fields.items) [] (ap length is ∙ length-map fields.items of)
      (λ k below. ap (λ l. get_or l k []) is ∙ get_or-map of fields.items k whole [] below ∙ ap of (field_at k below) ∙ field_taken k below indices within)

  pub struct_taken : (count : ℕ) (parts : Vec Column Global) (seen : Option Bits) (indices : List Value) → all_within n indices ≡ true → count ≡ length indices →
      map rows parts.items ≡ map (λ c. take_rows (rows c) (map (live_index validity) indices)) fields.items →
      bits_for (length indices) seen ≡ map (valid_pick validity) (map pick_of indices) → rows (Struct count parts seen) ≡ take_rows (rows whole) indices
  struct_taken count parts seen indices within long made valid =
      let vs = take_rows (rows whole) indices in
      rows-Struct count parts seen
      ∙ tuples_rebuilt (length fields.items) vs (map rows parts.items) seen count
      (λ k. subst (λ m. IsTuple m (get_or vs k Null)) many (picked_all (IsTuple (length (shape_list types))) tt (rows whole ∷ []) each (map pick_of indices) k))
      (length-pick Null (rows whole ∷ []) indices ∙ sym long)
      (fields_taken (map rows parts.items) indices within made)
      (ap (λ m. bits_for m seen) long ∙ valid ∙ sym (taken_valid indices within))
    where
      each : (i k : ℕ) → IsTuple (length (shape_list types)) (get_or (get_or (rows whole ∷ []) i []) k Null)
      each zero k = rows_tuples whole types kind k
      each (suc i) k = tt

  pub struct_fits : (count : ℕ) (parts : Vec Column Global) (seen : Option Bits) (indices : List Value) → count ≤ max_rows → count ≡ length indices →
      All (IsField (length indices)) parts.items → bits_for (length indices) seen ≡ map (valid_pick validity) (map pick_of indices) → well_formed (Struct count parts seen) ≡ true
  struct_fits count parts seen indices few long all valid = grind (arith, common_steps, fields_make, covers_for)

  -- A limit that a field exceeds is exceeded by the struct rows.
  pub struct_exceeded : (indices : List Value) (limit : Limit) → all_within n indices ≡ true → exceeded_in_taken fields.items (map (live_index validity) indices) limit →
      exceeded_limits (type_of whole) (take_rows (rows whole) indices) limit
  struct_exceeded indices limit within h =
      subst (λ s. exceeded_limits s vs limit) (sym kind) (from fields.items 0 (λ k below. at k below) h)
    where
      live : List Value
      live = map (live_index validity) indices

      vs : List Value
      vs = take_rows (rows whole) indices

      at : (k : ℕ) → k < length fields.items → take_rows (rows (get_or fields.items k whole)) live ≡ map (part_at (0 + k)) vs
      at k below =
          let place : k ≡ 0 + k = omega arith in
          ap (λ c. take_rows (rows c) live) (field_at k below) ∙ field_taken k below indices within ∙ ap (λ m. map (part_at m) vs) place

      from : (cs : List Column) (j : ℕ) → ((k : ℕ) → k < length cs → take_rows (rows (get_or cs k whole)) live ≡ map (part_at (j + k)) vs) → exceeded_in_taken cs live limit → exceeded_in_parts (shapes_of (map type_of cs)) j vs limit
      from [] j is h = h
      from (c ∷ cs) j is (inl h) =
          let place : j + 0 ≡ j = omega arith in
          inl (subst (λ l. exceeded_limits (type_of c) l limit) (is 0 (omega arith) ∙ ap (λ m. map (part_at m) vs) place) h)
      from (c ∷ cs) j is (inr h) =
          inr (from cs (j + 1) (λ k below. let place : j + suc k ≡ (j + 1) + k = omega arith in is (suc k) (omega (arith, below)) ∙ ap (λ m. map (part_at m) vs) place) h)

-- The rows of a column at indices.
abbrev pub taken_of : List Value → Column → List Value
taken_of indices column = take_rows (rows column) indices

-- A limit that one field exceeds.
pub past_field : (cs : List Column) (indices : List Value) (i : ℕ) (c : Column) (limit : Limit) → i < length cs → c ≡ get_or cs i c →
    exceeded_limits (type_of c) (take_rows (rows c) indices) limit → exceeded_in_taken cs indices limit
past_field [] indices i c limit lt is h = absurd (omega (arith, lt))
past_field (x ∷ cs) indices zero c limit lt is h = inl (subst (λ y. exceeded_limits (type_of y) (take_rows (rows y) indices) limit) is h)
past_field (x ∷ cs) indices (suc i) c limit lt is h = inr (past_field cs indices i c limit (omega arith) is h)
