-- Rows of a column exceed no limit.
use Rattle.std.proofs.Common.{◌≡◌, ℕ, ◌+◌, ◌≤◌, ◌<◌, true, false, List, [], ◌∷◌, ◌++◌, length, map, take, get_or, refl, ap, ◌∙◌, arith, subst, ℤ}
use Rattle.std.proofs.lemmas.Bool.{le-ltb}
use Rattle.sel_text.proofs.Common.{common_steps, or_from, or_parts, nat_tests, rows, row_count, well_formed, Shape, shapes_of, Value, ArrayRef, Column, length-map, length-take, map_more, max_rows, shape_of, ArrowDataType, fits_number, any_exceeds_limit, exceeds_limit, exceeds_max, part_in, NullSlots}
use Rattle.sel_arrow.proofs.NestedRows.{length-rows, has_blocks}
use Rattle.sel_arrow.specs.declared.fixed_size_list.FixedSizeListArray.{FixedSizeListArray}

count_few : (c : Column) → well_formed c ≡ true → row_count c ≤ max_rows
count_few c formed = grind (arith, nat_tests, formed)

-- The rows of a column are not too many.
pub rows_few : (array : ArrayRef) (vs : List Value) → rows array.column ≡ vs → exceeds_max (length vs) ≡ false
rows_few array vs are =
    let count = length-rows array.column in
    let few = count_few array.column array.formed in
    let same = ap length are in
    le-ltb max_rows (length vs) (omega (arith, count, few, same))

-- Rows of an integer type exceed a limit only if they are too many.
pub numbers_within : (b : NullSlots) (s : Shape) (z : ℤ) (vs : List Value) → fits_number s z ≡ true → exceeds_max (length vs) ≡ false → exceeds_limit b s vs ≡ false
numbers_within b s z vs number few = grind (arith, common_steps)

-- The list size of a column of fixed-size lists is not too large.
pub width_few : (array : FixedSizeListArray) → exceeds_max array.size ≡ false
width_few array = let has = has_blocks array.size array.len array.values.value array.validity array.formed in le-ltb max_rows array.size has.narrow

-- One more field exceeds no limit, so none of the fields does.
one_within : (b : NullSlots) (xs : List Shape) (s : Shape) (place n : ℕ) (vs : List Value) → place + length xs ≡ n → any_exceeds_limit b (shapes_of xs) place vs ≡ false → exceeds_limit b s (map (part_in n) vs) ≡ false → any_exceeds_limit b (shapes_of (xs ++ s ∷ [])) place vs ≡ false
one_within b [] s place n vs at none one =
    let here : n ≡ place = omega (arith, at) in
    or_from (exceeds_limit b s (map (part_in place) vs)) false (subst (λ m. exceeds_limit b s (map (part_in m) vs) ≡ false) here one) refl
one_within b (x ∷ xs) s place n vs at none one =
    let both = or_parts (exceeds_limit b x (map (part_in place) vs)) (any_exceeds_limit b (shapes_of xs) (place + 1) vs) none in
    let next : (place + 1) + length xs ≡ n = omega (arith, at) in
    or_from (exceeds_limit b x (map (part_in place) vs)) (any_exceeds_limit b (shapes_of (xs ++ s ∷ [])) (place + 1) vs) both.0 (one_within b xs s (place + 1) n vs next both.1 one)

pub fields_within : (b : NullSlots) (dtypes : List ArrowDataType) (dtype : ArrowDataType) (k : ℕ) (vs : List Value) → k < length dtypes → dtype ≡ get_or dtypes k dtype →
    any_exceeds_limit b (shapes_of (map shape_of (take k dtypes))) 0 vs ≡ false → exceeds_limit b (shape_of dtype) (map (part_in k) vs) ≡ false → any_exceeds_limit b (shapes_of (map shape_of (take (k + 1) dtypes))) 0 vs ≡ false
fields_within b dtypes dtype k vs below is none one =
    let count : length (map shape_of (take k dtypes)) ≡ k = rw (length-map, length-take) (omega arith) in
    ap (λ l. any_exceeds_limit b (shapes_of l) 0 vs) (map_more shape_of dtypes k dtype below)
    ∙ one_within b (map shape_of (take k dtypes)) (shape_of (get_or dtypes k dtype)) 0 k vs (omega (arith, count)) none (subst (λ d. exceeds_limit b (shape_of d) (map (part_in k) vs) ≡ false) is one)
