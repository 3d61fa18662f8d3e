-- Slices and copies of columns with children.
use Rattle.std.proofs.lemmas.Grind.{common_steps}
use Rattle.std.proofs.Common.{◌≡◌, ℕ, ◌+◌, ◌-◌, ◌*◌, ◌≤◌, ◌<◌, true, List, [], ◌∷◌, ◌++◌, length, take, drop, map, get_or, Option, All, Vec, Box, Global, refl, ap, sym, subst, ◌∙◌, arith, suc, suc-mul, add-mul}
use Rattle.sel_arrow.proofs.Common.{flat_map, range_with_len, slice_range, ForSome, option_map, length-map, map_more, map_push, get_or-take, get_or-drop, take-take, drop-drop, drop-take, All-weaker, Bits, masked, part_of, Covers, list_of, list_rows, blocks, block_rows, struct_at, struct_rows, rows_between, rows, row_count, buffers_held, type_of, well_formed, IsField, IsWellFormed, of_struct, shapes_of, Value, Null, Tuple, values_of, Column, LargeList, FixedSizeList, Struct}
use Rattle.std.proofs.lemmas.List.FromFn.{length-map-range_with_len, get_or-map-range_with_len, fill_by_all}
use Rattle.std.proofs.lemmas.Nat.{mul-le}
use Rattle.sel_arrow.proofs.ByteRows.{part-pieces, part_rising, part_few, part_last, part_covered}
use Rattle.sel_arrow.proofs.NestedRows.{length-rows, length-list_rows, length-block_rows, length-tuple_rows, has_lists, lists_formed, has_blocks, blocks_formed}
use Rattle.sel_arrow.proofs.Rows.{part-mapped, part-masked, length-part, part_covers, part_within}
use Rattle.sel_arrow.proofs.{Trees.rows-Struct, Trees.has_fields, Trees.fields_make, Types.type_of-Struct, Types.buffers_held-Struct, Types.same_at}

-- A part of a list that is defined by position.
part_by_place : {A : Type 0} (f g : ℕ → A) (n off len : ℕ) (d : A) → off + len ≤ n → ((i : ℕ) → i < len → g i ≡ f (off + i)) → map g (range_with_len 0 len) ≡ take len (drop off (map f (range_with_len 0 n)))
part_by_place f g n off len d h same =
    let whole = map f (range_with_len 0 n) in
    let long : length whole ≡ n = length-map-range_with_len f 0 n in
    sym
    (fill_by_all g (take len (drop off whole)) len d (length-part whole off len (omega arith))
    (λ k lt.
    get_or-take len (drop off whole) k d lt ∙ get_or-drop off whole k d ∙ get_or-map-range_with_len f 0 n (off + k) (off + k) d (omega arith) (omega arith) ∙ sym (same k lt)))

-- A range of a part of a list.
range_of_part : {A : Type 0} (xs : List A) (a m p q : ℕ) → p ≤ q → q ≤ m → slice_range (take m (drop a xs)) p q ≡ slice_range xs (a + p) (a + q)
range_of_part xs a m p q le within =
    let rest : m ≡ p + (m - p) = omega arith in
    let size : (a + q) - (a + p) ≡ q - p = omega arith in
    ap (λ k. take (q - p) (drop p (take k (drop a xs)))) rest
    ∙ ap (take (q - p)) (drop-take p (m - p) (drop a xs))
    ∙ take-take (q - p) (m - p) (drop p (drop a xs)) (omega arith)
    ∙ ap (take (q - p)) (drop-drop p a xs)
    ∙ ap (λ k. take k (drop (a + p) xs)) (sym size)

part-blocks : {A : Type 0} (w n off len : ℕ) (xs : List A) → off + len ≤ n → blocks w len (take (len * w) (drop (off * w) xs)) ≡ take len (drop off (blocks w n xs))
part-blocks w n off len xs h =
    part_by_place (λ i. slice_range xs (i * w) (i * w + w)) (λ i. slice_range (take (len * w) (drop (off * w) xs)) (i * w) (i * w + w)) n off len [] h
    (λ i lt.
    let fits : i * w + w ≤ len * w = omega (arith, suc-mul i w, mul-le (suc i) w len w (omega arith) (omega arith)) in
    let place : off * w + i * w ≡ (off + i) * w = sym (add-mul off i w) in
    let last : off * w + (i * w + w) ≡ (off + i) * w + w = omega (arith, place) in
    range_of_part xs (off * w) (len * w) (i * w) (i * w + w) (omega arith) fits
    ∙ ap (λ k. slice_range xs k (off * w + (i * w + w))) place
    ∙ ap (λ k. slice_range xs ((off + i) * w) k) last)

-- ---- rows of a part

pub part-list_rows : (offsets : List ℕ) (child : List Value) (validity : Option Bits) (off len : ℕ) → list_rows (take (len + 1) (drop off offsets)) child (option_map (part_of off len) validity) ≡ take len (drop off (list_rows offsets child validity))
part-list_rows offsets child validity off len = simp (part-pieces, part-mapped)

pub part-block_rows : (w n : ℕ) (child : List Value) (validity : Option Bits) (off len : ℕ) → off + len ≤ n →
    block_rows w len (take (len * w) (drop (off * w) child)) (option_map (part_of off len) validity) ≡ take len (drop off (block_rows w n child validity))
part-block_rows w n child validity off len h =
    ap (λ parts. masked (option_map (part_of off len) validity) (map list_of parts)) (part-blocks w n off len child h)
    ∙ part-mapped list_of (blocks w n child) validity off len

-- The struct value at position i of parts of the fields.
tuple_of_parts : (fields : List (List Value)) (off len i : ℕ) → i < len → struct_at (map (λ field. take len (drop off field)) fields) i ≡ struct_at fields (off + i)
tuple_of_parts fields off len i lt = ap (λ values. Tuple (values_of values)) (each fields)
  where
    each : (fields : List (List Value)) → map (λ field. get_or field i Null) (map (λ field. take len (drop off field)) fields) ≡ map (λ field. get_or field (off + i) Null) fields
    each [] = refl
    each (field ∷ fields) = simp (get_or-take, get_or-drop, (each fields))

pub part-tuple_rows : (n : ℕ) (fields : List (List Value)) (validity : Option Bits) (off len : ℕ) → off + len ≤ n →
    struct_rows len (map (λ field. take len (drop off field)) fields) (option_map (part_of off len) validity) ≡ take len (drop off (struct_rows n fields validity))
part-tuple_rows n fields validity off len h =
    ap (masked (option_map (part_of off len) validity)) (part_by_place (struct_at fields) (struct_at (map (λ field. take len (drop off field)) fields)) n off len Null h (tuple_of_parts fields off len))
    ∙ sym (part-masked validity (map (struct_at fields) (range_with_len 0 n)) off len)

-- The rows of a part of a column.
abbrev pub part_rows : ℕ → ℕ → Column → List Value
part_rows off len column = take len (drop off (rows column))

-- ---- slices and copies of list columns

pub lists_inside : (offsets : List ℕ) (values : Box Column Global) (validity : Option Bits) (off len : ℕ) → off + len ≤ length (rows (LargeList offsets values validity)) → off + len ≤ rows_between offsets
lists_inside offsets values validity off len inside = omega (arith, length-list_rows offsets (rows values.value) validity)

pub lists_reach : (offsets : List ℕ) (values : Box Column Global) (validity : Option Bits) (off len : ℕ) → well_formed (LargeList offsets values validity) ≡ true → off + len ≤ length (rows (LargeList offsets values validity)) → off + len < length offsets
lists_reach offsets values validity off len formed inside =
    omega (arith, lists_inside offsets values validity off len inside, (has_lists offsets values.value validity formed).rising.some)

pub lists_cover : (offsets : List ℕ) (values : Box Column Global) (validity : Option Bits) (off len : ℕ) → well_formed (LargeList offsets values validity) ≡ true → off + len ≤ length (rows (LargeList offsets values validity)) → ForSome validity (λ v. off + len ≤ length v.bits)
lists_cover offsets values validity off len formed inside =
    part_within validity (rows_between offsets) off len (has_lists offsets values.value validity formed).covered (lists_inside offsets values validity off len inside)

pub lists_part : (offsets new : List ℕ) (values child : Box Column Global) (validity seen : Option Bits) (off len : ℕ) → well_formed (LargeList offsets values validity) ≡ true →
    off + len ≤ length (rows (LargeList offsets values validity)) → new ≡ take (len + 1) (drop off offsets) → rows child.value ≡ rows values.value → well_formed child.value ≡ true → seen ≡ option_map (part_of off len) validity →
    well_formed (LargeList new child seen) ≡ true
lists_part offsets new values child validity seen off len formed inside is same below part =
    let has = has_lists offsets values.value validity formed in
    let within = lists_inside offsets values validity off len inside in
    let count : row_count child.value ≡ row_count values.value = sym (length-rows child.value) ∙ ap length same ∙ length-rows values.value in
    rw (is, part)
    (lists_formed (take (len + 1) (drop off offsets)) child.value (option_map (part_of off len) validity)
    (record {
      rising = part_rising offsets off len has.rising within;
      few = part_few offsets off len has.rising within has.few;
      ends = omega (arith, count, has.ends, part_last offsets off len has.rising within);
      covered = part_covered offsets validity off len has.rising within has.covered;
      child = below;
    }))

pub lists_part_rows : (offsets new : List ℕ) (values child : Box Column Global) (validity seen : Option Bits) (off len : ℕ) → new ≡ take (len + 1) (drop off offsets) → rows child.value ≡ rows values.value →
    seen ≡ option_map (part_of off len) validity → rows (LargeList new child seen) ≡ take len (drop off (rows (LargeList offsets values validity)))
lists_part_rows offsets new values child validity seen off len is same part = grind (arith, part-list_rows)

pub lists_copied : (offsets new : List ℕ) (values child : Box Column Global) (validity seen : Option Bits) → well_formed (LargeList offsets values validity) ≡ true → new ≡ offsets → rows child.value ≡ rows values.value →
    well_formed child.value ≡ true → seen ≡ validity → well_formed (LargeList new child seen) ≡ true
lists_copied offsets new values child validity seen formed is same below copy =
    let has = has_lists offsets values.value validity formed in
    let count : row_count child.value ≡ row_count values.value = sym (length-rows child.value) ∙ ap length same ∙ length-rows values.value in
    rw (is, copy) (lists_formed offsets child.value validity (record { rising = has.rising; few = has.few; ends = omega (arith, count, has.ends); covered = has.covered; child = below }))

pub lists_copied_rows : (offsets new : List ℕ) (values child : Box Column Global) (validity seen : Option Bits) → new ≡ offsets → rows child.value ≡ rows values.value → seen ≡ validity →
    rows (LargeList new child seen) ≡ rows (LargeList offsets values validity)
lists_copied_rows offsets new values child validity seen is same copy = cc

-- ---- slices and copies of fixed-size list columns

pub blocks_inside : (size n : ℕ) (values : Box Column Global) (validity : Option Bits) (off len : ℕ) → off + len ≤ length (rows (FixedSizeList size n values validity)) → off + len ≤ n
blocks_inside size n values validity off len inside = omega (arith, inside, length-block_rows size n (rows values.value) validity)

pub blocks_within : (size n : ℕ) (values : Box Column Global) (validity : Option Bits) (off len : ℕ) → well_formed (FixedSizeList size n values validity) ≡ true → off + len ≤ n → off * size + len * size ≤ length (rows values.value)
blocks_within size n values validity off len formed inside =
    let has = has_blocks size n values.value validity formed in
    let count : length (rows values.value) ≡ n * size = length-rows values.value ∙ has.fills in
    omega (arith, count, add-mul off len size, mul-le (off + len) size n size inside (omega arith))

pub blocks_fit : (size n : ℕ) (values : Box Column Global) (validity : Option Bits) (k : ℕ) → well_formed (FixedSizeList size n values validity) ≡ true → k ≤ n → k * size < 18446744073709551616
blocks_fit size n values validity k formed le = grind (arith, has_blocks)

pub blocks_cover : (size n : ℕ) (values : Box Column Global) (validity : Option Bits) (off len : ℕ) → well_formed (FixedSizeList size n values validity) ≡ true → off + len ≤ n → ForSome validity (λ v. off + len ≤ length v.bits)
blocks_cover size n values validity off len formed inside = part_within validity n off len (has_blocks size n values.value validity formed).covered inside

pub blocks_part : (size n : ℕ) (values child : Box Column Global) (validity seen : Option Bits) (off len : ℕ) → well_formed (FixedSizeList size n values validity) ≡ true → off + len ≤ n →
    rows child.value ≡ take (len * size) (drop (off * size) (rows values.value)) → well_formed child.value ≡ true → seen ≡ option_map (part_of off len) validity → well_formed (FixedSizeList size len child seen) ≡ true
blocks_part size n values child validity seen off len formed inside part below is =
    let has = has_blocks size n values.value validity formed in
    let within = blocks_within size n values validity off len formed inside in
    let count : row_count child.value ≡ len * size = sym (length-rows child.value) ∙ ap length part ∙ length-part (rows values.value) (off * size) (len * size) within in
    rw is
    (blocks_formed size len child.value (option_map (part_of off len) validity)
    (record { few = omega (arith, has.few); narrow = has.narrow; fills = count; covered = part_covers validity n off len has.covered inside; child = below }))

pub blocks_part_rows : (size n : ℕ) (values child : Box Column Global) (validity seen : Option Bits) (off len : ℕ) → off + len ≤ n → rows child.value ≡ take (len * size) (drop (off * size) (rows values.value)) →
    seen ≡ option_map (part_of off len) validity → rows (FixedSizeList size len child seen) ≡ take len (drop off (rows (FixedSizeList size n values validity)))
blocks_part_rows size n values child validity seen off len inside part is = grind (arith, part-block_rows)

pub blocks_copied : (size n : ℕ) (values child : Box Column Global) (validity seen : Option Bits) → well_formed (FixedSizeList size n values validity) ≡ true → rows child.value ≡ rows values.value →
    well_formed child.value ≡ true → seen ≡ validity → well_formed (FixedSizeList size n child seen) ≡ true
blocks_copied size n values child validity seen formed same below copy =
    let has = has_blocks size n values.value validity formed in
    let count : row_count child.value ≡ row_count values.value = sym (length-rows child.value) ∙ ap length same ∙ length-rows values.value in
    rw copy (blocks_formed size n child.value validity (record { few = has.few; narrow = has.narrow; fills = count ∙ has.fills; covered = has.covered; child = below }))

pub blocks_copied_rows : (size n : ℕ) (values child : Box Column Global) (validity seen : Option Bits) → rows child.value ≡ rows values.value → seen ≡ validity → rows (FixedSizeList size n child seen) ≡ rows (FixedSizeList size n values validity)
blocks_copied_rows size n values child validity seen same copy = ap (λ vs. block_rows size n vs seen) same ∙ ap (block_rows size n (rows values.value)) copy

-- ---- slices and copies of struct columns

pub tuples_inside : (n : ℕ) (fields : Vec Column Global) (validity : Option Bits) (off len : ℕ) → off + len ≤ length (rows (Struct n fields validity)) → off + len ≤ n
tuples_inside n fields validity off len inside = grind (arith, length-tuple_rows)

pub fields_within : (n : ℕ) (fields : Vec Column Global) (validity : Option Bits) (off len : ℕ) → well_formed (Struct n fields validity) ≡ true → off + len ≤ n → All (λ column. IsWellFormed column × (off + len ≤ length (rows column))) fields.items
fields_within n fields validity off len formed inside = grind (arith, length-rows, has_fields)

pub fields_cover : (n : ℕ) (fields : Vec Column Global) (validity : Option Bits) (off len : ℕ) → well_formed (Struct n fields validity) ≡ true → off + len ≤ n → ForSome validity (λ v. off + len ≤ length v.bits)
fields_cover n fields validity off len formed inside = part_within validity n off len (has_fields n fields validity formed).covered inside

pub tuples_part : (n : ℕ) (fields parts : Vec Column Global) (validity seen : Option Bits) (off len : ℕ) → well_formed (Struct n fields validity) ≡ true → off + len ≤ n → All (IsField len) parts.items → seen ≡ option_map (part_of off len) validity →
    well_formed (Struct len parts seen) ≡ true
tuples_part n fields parts validity seen off len formed inside all is = grind (arith, common_steps, fields_make)

pub tuples_part_rows : (n : ℕ) (fields parts : Vec Column Global) (validity seen : Option Bits) (off len : ℕ) → off + len ≤ n → map rows parts.items ≡ map (part_rows off len) fields.items → seen ≡ option_map (part_of off len) validity →
    rows (Struct len parts seen) ≡ take len (drop off (rows (Struct n fields validity)))
tuples_part_rows n fields parts validity seen off len inside part is = grind (arith, rows-Struct, twice, part-tuple_rows)
  where
    twice : (cs : List Column) → map (part_rows off len) cs ≡ map (λ vs. take len (drop off vs)) (map rows cs)
    twice [] = refl
    twice (c ∷ cs) = ap (λ rest. part_rows off len c ∷ rest) (twice cs)

pub tuples_type : (n len : ℕ) (fields parts : Vec Column Global) (validity seen : Option Bits) → map type_of parts.items ≡ map type_of fields.items → type_of (Struct len parts seen) ≡ type_of (Struct n fields validity)
tuples_type n len fields parts validity seen same = type_of-Struct len parts seen ∙ ap (λ ss. of_struct (shapes_of ss)) same ∙ sym (type_of-Struct n fields validity)

pub tuples_held : (n len : ℕ) (fields parts : Vec Column Global) (validity seen : Option Bits) → map buffers_held parts.items ≡ map buffers_held fields.items → buffers_held (Struct len parts seen) ≡ buffers_held (Struct n fields validity)
tuples_held n len fields parts validity seen same = buffers_held-Struct len parts seen ∙ ap (flat_map (λ held. held)) same ∙ sym (buffers_held-Struct n fields validity)

fields_copied : (n : ℕ) (cs ds : List Column) → map rows ds ≡ map rows cs → All IsWellFormed ds → All (IsField n) cs → All (IsField n) ds
fields_copied n cs ds same formed all = λ k d lt.
    let below : k < length cs = omega (arith, lt, ap length same, length-map ds rows, length-map cs rows) in
    let here : rows (get_or ds k d) ≡ rows (get_or cs k d) = same_at rows rows ds cs k d d lt below same in
    (sym (length-rows (get_or ds k d)) ∙ ap length here ∙ length-rows (get_or cs k d) ∙ (all k d below).0, formed k d lt)

pub fields_formed_each : (n : ℕ) (fields : Vec Column Global) (validity : Option Bits) → well_formed (Struct n fields validity) ≡ true → All IsWellFormed fields.items
fields_formed_each n fields validity formed = All-weaker (IsField n) IsWellFormed (λ column field. field.1) fields.items (has_fields n fields validity formed).fields

pub tuples_copied : (n : ℕ) (fields copies : Vec Column Global) (validity seen : Option Bits) → well_formed (Struct n fields validity) ≡ true → map rows copies.items ≡ map rows fields.items → All IsWellFormed copies.items → seen ≡ validity →
    well_formed (Struct n copies seen) ≡ true
tuples_copied n fields copies validity seen formed same below copy =
    let has = has_fields n fields validity formed in
    fields_make n copies seen
    (record { few = has.few; covered = subst (λ v. Covers v n) (sym copy) has.covered; fields = fields_copied n fields.items copies.items same below has.fields })

pub tuples_copied_rows : (n : ℕ) (fields copies : Vec Column Global) (validity seen : Option Bits) → map rows copies.items ≡ map rows fields.items → seen ≡ validity → rows (Struct n copies seen) ≡ rows (Struct n fields validity)
tuples_copied_rows n fields copies validity seen same copy = grind (arith, rows-Struct)

-- ---- field by field

pub mapped_more : {A B C : Type 0} (f : A → C) (g : B → C) (cs : List B) (ds more : List A) (i : ℕ) (c : B) (d : A) → i < length cs → c ≡ get_or cs i c → more ≡ ds ++ d ∷ [] → f d ≡ g c → map f ds ≡ map g (take i cs) → map f more ≡ map g (take (i + 1) cs)
mapped_more f g cs ds more i c d lt is pushed here before = grind (arith, map_push, map_more)

pub part_is_field : (off len : ℕ) (column part : Column) → rows part ≡ part_rows off len column → off + len ≤ length (rows column) → well_formed part ≡ true → IsField len part
part_is_field off len column part is inside formed = (sym (length-rows part) ∙ ap length is ∙ length-part (rows column) off len inside, formed)

pub ruleset list_steps = (lists_reach, lists_cover, lists_part, lists_part_rows, lists_copied, lists_copied_rows)

pub ruleset block_steps = (blocks_inside, blocks_within, blocks_fit, blocks_cover, blocks_part, blocks_part_rows, blocks_copied, blocks_copied_rows)

pub ruleset tuple_steps = (tuples_inside, fields_within, fields_cover, tuples_part, tuples_part_rows, tuples_type, tuples_held, fields_formed_each, tuples_copied, tuples_copied_rows)
