-- The fields of struct rows, and struct rows made of fields.
use Rattle.std.proofs.Common.{◌≡◌, ℕ, zero, suc, ◌+◌, ◌<◌, true, false, ◌==◌, List, [], ◌∷◌, ◌++◌, map, length, take, get_or, Option, Some, refl, sym, ap, ◌∙◌}
use Rattle.std.proofs.Common.{arith, append_assoc, not, slice_index_or}
use Rattle.std.proofs.lemmas.{Simd.map-map, List.FromFn.fill_by_all, List.FromFn.map-range_with_len_more}
use Rattle.sel_text.proofs.Common.{all_at, common_steps, or_left, or_right, list_all, range_with_len, nat_tests, length-map, length-take, map-append, map_more}
use Rattle.sel_text.proofs.Common.{Bits, Malformed, TooManyRows, FieldLength, ValidityLength, shape_of, struct_fault, masked, too_many, validity_differs}
use Rattle.sel_text.proofs.Common.{Covers, struct_at, struct_rows, rows, row_count, type_of, Shape, of_struct, shapes_of, Value, Null, Tuple, Values, no_values}
use Rattle.sel_text.proofs.Common.{next_value, values_of, listed, is_valid, ArrayRef, ArrowDataType, both, and_first, and_second, parts_below, HasParts, fits}
use Rattle.sel_text.proofs.Common.{fields_fit, any_exceeds_limit, part_in, exceeds_limit, ShowsRows, NullSlots}
use Rattle.sel_arrow.specs.{NestedArrays.struct_column, declared.structure.StructArray.StructArray}
use Rattle.sel_arrow.proofs.{NestedRows.length-rows, Trees.rows-Struct, Types.type_of-Struct}
use Rattle.sel_text.proofs.{ItemRows.values_back, Shown.show_next, Making.first_of_three, Refusals.no_difference}

-- ---- the field values fit their types

part_fits : (dtypes : List ArrowDataType) (es : Values) (k : ℕ) (d : ArrowDataType) → fields_fit (shapes_of (map shape_of dtypes)) es ≡ true → k < length dtypes → d ≡ get_or dtypes k d → fits (shape_of d) (slice_index_or (listed es) k Null) ≡ true
part_fits [] es k d fit below is = absurd (omega arith)
part_fits (x ∷ xs) no_values k d fit below is = absurd cc
part_fits (x ∷ xs) (next_value v vs) zero d fit below is = ap (λ t. fits (shape_of t) v) is ∙ and_first _ _ fit
part_fits (x ∷ xs) (next_value v vs) (suc k) d fit below is = part_fits xs vs k d (and_second _ _ fit) (omega arith) is

row_part : (dtypes : List ArrowDataType) (k : ℕ) (d : ArrowDataType) → k < length dtypes → d ≡ get_or dtypes k d → (row : Value) → fits (of_struct (shapes_of (map shape_of dtypes))) row ≡ true → fits (shape_of d) (part_in k row) ≡ true
row_part dtypes k d below is row fit = grind (arith, common_steps, part_fits)

pub parts_kept : (dtypes : List ArrowDataType) (k : ℕ) (d : ArrowDataType) → k < length dtypes → d ≡ get_or dtypes k d → (vs : List Value) → list_all (fits (of_struct (shapes_of (map shape_of dtypes)))) vs ≡ true → list_all (fits (shape_of d)) (map (part_in k) vs) ≡ true
parts_kept dtypes k d below is [] fit = refl
parts_kept dtypes k d below is (v ∷ vs) fit = both _ _ (row_part dtypes k d below is v (and_first _ _ fit)) (parts_kept dtypes k d below is vs (and_second _ _ fit))

-- A limit that a field exceeds is a limit of the struct rows.
pub past_at : (b : NullSlots) (dtypes : List ArrowDataType) (place k n : ℕ) (d : ArrowDataType) (vs : List Value) → k < length dtypes → d ≡ get_or dtypes k d → place + k ≡ n → exceeds_limit b (shape_of d) (map (part_in n) vs) ≡ true →
    any_exceeds_limit b (shapes_of (map shape_of dtypes)) place vs ≡ true
past_at b [] place k n d vs below is at past = absurd (omega arith)
past_at b (x ∷ xs) place zero n d vs below is at past =
    let here : place ≡ n = omega arith in
    or_left _ _ (ap (λ m. exceeds_limit b (shape_of x) (map (part_in m) vs)) here ∙ ap (λ t. exceeds_limit b (shape_of t) (map (part_in n) vs)) (sym is) ∙ past)
past_at b (x ∷ xs) place (suc k) n d vs below is at past = or_right _ _ (past_at b xs (place + 1) k n d vs (omega arith) is (omega arith) past)

-- ---- a struct row is made of its field values

count_parts : (shapes : List Shape) (es : Values) → fields_fit (shapes_of shapes) es ≡ true → length (listed es) ≡ length shapes
count_parts [] no_values fit = refl
count_parts (x ∷ xs) (next_value v vs) fit = ap suc (count_parts xs vs (and_second (fits x v) (fields_fit (shapes_of xs) vs) fit))
count_parts xs vs fit = cc

tuple_of_parts : (shapes : List Shape) (row : Value) → fits (of_struct (shapes_of shapes)) row ≡ true → is_valid row ≡ true → row ≡ Tuple (values_of (map (λ place. part_in place row) (range_with_len 0 (length shapes))))
tuple_of_parts shapes (Tuple es) fit valid =
    let entries = fill_by_all (λ place. slice_index_or (listed es) place Null) (listed es) (length shapes) Null (count_parts shapes es fit) (λ k small. refl) in
    ap Tuple (sym (values_back es)) ∙ ap (λ l. Tuple (values_of l)) entries
tuple_of_parts shapes row fit valid = absurd cc

part_here : (vs : List Value) (k place : ℕ) → slice_index_or (map (part_in place) vs) k Null ≡ part_in place (slice_index_or vs k Null)
part_here (v ∷ vs) (suc k) place = part_here vs k place
part_here vs k place = refl

row_parts : (vs : List Value) (k : ℕ) (row : Value) → get_or vs k Null ≡ row → (places : List ℕ) → map (λ field. slice_index_or field k Null) (map (λ place. map (part_in place) vs) places) ≡ map (λ place. part_in place row) places
row_parts vs k row is [] = refl
row_parts vs k row is (place ∷ places) = grind (arith, common_steps, part_here, (row_parts vs k row is places))

-- Values show rows if they do at each position.
shows_each : (f : ℕ → Value) (vs : List Value) (k : ℕ) → ((i : ℕ) → i < length vs → is_valid (get_or vs i Null) ≡ true → get_or vs i Null ≡ f (k + i)) → ShowsRows vs (map f (range_with_len k (length vs)))
shows_each f [] k each = tt
shows_each f (v ∷ vs) k each =
    show_next v (f k) vs (map f (range_with_len (k + 1) (length vs))) (λ valid. each 0 (omega arith) valid ∙ ap f (let same : k + 0 ≡ k = omega arith in same))
    (shows_each f vs (k + 1) (λ i small valid. each (suc i) (omega arith) valid ∙ ap f (let same : k + suc i ≡ (k + 1) + i = omega arith in same)))

tuples_show : (shapes : List Shape) (vs : List Value) → list_all (fits (of_struct (shapes_of shapes))) vs ≡ true → ShowsRows vs (map (struct_at (parts_below (length shapes) vs)) (range_with_len 0 (length vs)))
tuples_show shapes vs fit =
    shows_each (struct_at (parts_below (length shapes) vs)) vs 0 (λ i small valid.
    tuple_of_parts shapes (get_or vs i Null) (all_at (fits (of_struct (shapes_of shapes))) vs i Null fit small) valid
    ∙ ap (λ l. Tuple (values_of l)) (sym (row_parts vs i (get_or vs i Null) refl (range_with_len 0 (length shapes))))
    ∙ ap (struct_at (parts_below (length shapes) vs)) (let same : i ≡ 0 + i = omega arith in same))

-- ---- field by field

pub parts_more : (new mid old : List ArrayRef) (field : ArrayRef) (dtypes : List ArrowDataType) (dtype : ArrowDataType) (k : ℕ) (vs : List Value) → HasParts mid old (map shape_of (take k dtypes)) vs → k < length dtypes → dtype ≡ get_or dtypes k dtype →
    new ≡ mid ++ field ∷ [] → type_of field.column ≡ shape_of dtype → rows field.column ≡ map (part_in k) vs → HasParts new old (map shape_of (take (k + 1) dtypes)) vs
parts_more new mid old field dtypes dtype k vs has below is put typed made =
    let count : length (map shape_of (take k dtypes)) ≡ k = rw (length-map, length-take) (omega arith) in
    let more : length (map shape_of (take (k + 1) dtypes)) ≡ k + 1 = rw (length-map, length-take) (omega arith) in
    let last = map-range_with_len_more (λ place. map (part_in place) vs) 0 k k (omega arith) in
    record {
      types = ap (map (λ f. type_of f.column)) put ∙ map-append (λ f. type_of f.column) mid (field ∷ []) ∙ ap (λ l. l ++ type_of field.column ∷ []) has.types
          ∙ ap (λ t. (map (λ f. type_of f.column) old ++ map shape_of (take k dtypes)) ++ t ∷ []) (typed ∙ ap shape_of is)
          ∙ append_assoc (map (λ f. type_of f.column) old) (map shape_of (take k dtypes)) (shape_of (get_or dtypes k dtype) ∷ [])
          ∙ ap (λ l. map (λ f. type_of f.column) old ++ l) (sym (map_more shape_of dtypes k dtype below));
      parts = ap (map (λ f. rows f.column)) put ∙ map-append (λ f. rows f.column) mid (field ∷ []) ∙ ap (λ l. l ++ rows field.column ∷ []) has.parts
          ∙ ap (λ r. (map (λ f. rows f.column) old ++ parts_below (length (map shape_of (take k dtypes))) vs) ++ r ∷ []) made
          ∙ ap (λ n. (map (λ f. rows f.column) old ++ parts_below n vs) ++ map (part_in k) vs ∷ []) count
          ∙ append_assoc (map (λ f. rows f.column) old) (parts_below k vs) (map (part_in k) vs ∷ [])
          ∙ ap (λ l. map (λ f. rows f.column) old ++ l) (sym last) ∙ ap (λ n. map (λ f. rows f.column) old ++ parts_below n vs) (sym more);
    }

-- ---- the columns of the fields

pub tuples_made : (shapes : List Shape) (vs : List Value) (refs old : List ArrayRef) (array : StructArray) (validity : Option Bits) → list_all (fits (of_struct (shapes_of shapes))) vs ≡ true → HasParts refs old shapes vs → old ≡ [] →
    array.len ≡ length vs → array.fields.items ≡ map (λ field. field.column) refs → array.validity ≡ validity → ((plain : List Value) → ShowsRows vs plain → masked validity plain ≡ vs) →
    (type_of (struct_column array) ≡ of_struct (shapes_of shapes)) × (rows (struct_column array) ≡ vs)
tuples_made shapes vs refs old array validity fit has none len fields valid hides =
    let types = ap (map type_of) fields ∙ map-map type_of (λ field. field.column) refs ∙ has.types ∙ ap (λ l. map (λ field. type_of field.column) l ++ shapes) none in
    let parts = ap (map rows) fields ∙ map-map rows (λ field. field.column) refs ∙ has.parts ∙ ap (λ l. map (λ field. rows field.column) l ++ parts_below (length shapes) vs) none in (
      type_of-Struct array.len array.fields array.validity ∙ ap (λ l. of_struct (shapes_of l)) types,
      rows-Struct array.len array.fields array.validity ∙ ap (λ l. struct_rows array.len l array.validity) parts ∙ ap (λ n. struct_rows n (parts_below (length shapes) vs) array.validity) len
          ∙ ap (λ v. struct_rows (length vs) (parts_below (length shapes) vs) v) valid ∙ hides (map (struct_at (parts_below (length shapes) vs)) (range_with_len 0 (length vs))) (tuples_show shapes vs fit),
    )

fields_count : (vs : List Value) (refs : List ArrayRef) (places : List ℕ) → map (λ field. rows field.column) refs ≡ map (λ place. map (part_in place) vs) places → list_all (λ n. n == length vs) (map (λ field. row_count field.column) refs) ≡ true
fields_count vs [] places e = refl
fields_count vs (r ∷ refs) [] e = absurd cc
fields_count vs (r ∷ refs) (place ∷ places) e =
    let first : rows r.column ≡ map (part_in place) vs = cc in
    let others : map (λ field. rows field.column) refs ≡ map (λ p. map (part_in p) vs) places = cc in
    let count : row_count r.column ≡ length vs = sym (length-rows r.column) ∙ ap length first ∙ length-map vs (part_in place) in
    let same : (row_count r.column == length vs) ≡ true = grind (arith, nat_tests) in
    both (row_count r.column == length vs) (list_all (λ n. n == length vs) (map (λ field. row_count field.column) refs)) same (fields_count vs refs places others)

-- The only rule that can be broken is the number of rows.
pub tuples_past : (shapes : List Shape) (vs : List Value) (refs old : List ArrayRef) (n : ℕ) (validity : Option Bits) (m : Malformed) → HasParts refs old shapes vs → old ≡ [] → n ≡ length vs → Covers validity (length vs) →
    struct_fault n (map (λ field. row_count field.column) refs) validity ≡ Some m → too_many (length vs) ≡ true
tuples_past shapes vs refs old n validity m has none same covers is =
    let parts = has.parts ∙ ap (λ l. map (λ field. rows field.column) l ++ parts_below (length shapes) vs) none in
    let counts = fields_count vs refs (range_with_len 0 (length shapes)) parts in
    let rows_fit : list_all (λ k. k == n) (map (λ field. row_count field.column) refs) ≡ true = ap (λ l. list_all (λ k. k == l) (map (λ field. row_count field.column) refs)) same ∙ counts in
    let kept : validity_differs validity n ≡ false = ap (validity_differs validity) same ∙ no_difference validity (length vs) covers in
    sym (ap too_many same) ∙ first_of_three (too_many n) (not (list_all (λ k. k == n) (map (λ field. row_count field.column) refs))) (validity_differs validity n) TooManyRows FieldLength ValidityLength m (ap not rows_fit) kept is
