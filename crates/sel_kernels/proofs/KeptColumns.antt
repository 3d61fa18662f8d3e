-- Filtered fixed-size list and struct columns.
use Rattle.sel_kernels.proofs.Common.{common_steps, ◌≡◌, ℕ, zero, suc, ◌+◌, ◌-◌, ◌*◌, ◌≤◌, ◌<◌, Bool, true, false, List, [], ◌∷◌, ◌++◌, length, take, drop}
use Rattle.sel_kernels.proofs.Common.{map, get_or, Option, Box, Global, refl, ap, sym, ◌∙◌, subst, arith, length-append, first_chunks, drop-drop, drop-map}
use Rattle.sel_kernels.proofs.Common.{ext_get_or, length-drop, length-map, length-take, map-append, take-map, get_or-map-range_with_len, mul-le, Bits}
use Rattle.sel_kernels.proofs.Common.{count_true, Covers, blocks, block_rows, list_of, rows, row_count, type_of, well_formed, of_fixed_size_list, Value}
use Rattle.sel_kernels.proofs.Common.{Column, FixedSizeList, FixedSizeList', HasBlocks, has_blocks, length-blocks, length-rows, few_kept, length-select}
use Rattle.sel_kernels.proofs.Common.{select, flat_map, slice_range, option_map, suc-mul, map-map, All, Vec, range_with_len, get_or-map, All-nil, All-cons}
use Rattle.sel_kernels.proofs.Common.{All-head, All-tail, length-map-range_with_len, fill_by_all, masked, struct_at, IsField, Null, Struct, rows-Struct}
use Rattle.sel_kernels.proofs.Common.{has_fields, fields_make, kept, few_rows}
use Rattle.sel_arrow.{proofs.NestedRows.blocks_formed, specs.Nested.struct_rows, specs.Value.Tuple, specs.Value.values_of}
use Rattle.std.proofs.lemmas.List.{take_at, drop_at}
use Rattle.sel_kernels.specs.FixedSizeLists.{IsFixedSizeList}
use Rattle.sel_kernels.proofs.Selects.{count_kept, kept_below, kept_covers, kept_rows, select-map, select-masked, selected}

-- ---- blocks as consecutive chunks

abbrev pub joined : {A : Type 0} → List (List A) → List A
joined xss = flat_map (λ array. array) xss

length-chunks : {A : Type 0} (w n : ℕ) (xs : List A) → length (first_chunks w n xs) ≡ n
length-chunks w zero xs = refl
length-chunks w (suc n) xs = ap suc (length-chunks w n (drop w xs))

get_chunk : {A : Type 0} (w n : ℕ) (xs : List A) (k : ℕ) → k < n → get_or (first_chunks w n xs) k [] ≡ take w (drop (k * w) xs)
get_chunk w zero xs k h = absurd (omega (arith, h))
get_chunk w (suc n) xs zero h = grind (arith, common_steps)
get_chunk w (suc n) xs (suc k) h =
    let place : w + k * w ≡ suc k * w = omega (arith, suc-mul k w) in
    get_chunk w n (drop w xs) k (omega (arith, h)) ∙ ap (take w) (drop-drop (k * w) w xs ∙ ap (λ p. drop p xs) place)

pub at_block : {A : Type 0} (size n : ℕ) (xs : List A) (k : ℕ) (d : List A) → k < n → get_or (blocks size n xs) k d ≡ take size (drop (k * size) xs)
at_block size n xs k d h = grind (arith, common_steps, get_or-map-range_with_len, slice_range)

pub chunks_are : {A : Type 0} (w n : ℕ) (xs : List A) → first_chunks w n xs ≡ blocks w n xs
chunks_are w n xs =
    ext_get_or [] (first_chunks w n xs) (blocks w n xs) (length-chunks w n xs ∙ sym (length-blocks w n xs))
    (λ k h.
    let below : k < n = omega (arith, h, length-chunks w n xs) in
    get_chunk w n xs k below ∙ sym (at_block w n xs k [] below))

mapped_chunks : {A B : Type 0} (f : A → B) (w n : ℕ) (xs : List A) → first_chunks w n (map f xs) ≡ map (map f) (first_chunks w n xs)
mapped_chunks f w zero xs = refl
mapped_chunks f w (suc n) xs = rw (take-map, drop-map, mapped_chunks f w n (drop w xs))

mapped_joined : {A B : Type 0} (f : A → B) (xss : List (List A)) → map f (joined xss) ≡ joined (map (map f) xss)
mapped_joined f [] = refl
mapped_joined f (xs ∷ xss) = map-append f xs (joined xss) ∙ ap (λ l. map f xs ++ l) (mapped_joined f xss)

-- Each chunk has the width.
abbrev AllWide : {A : Type 0} → ℕ → List (List A) → Type 0
AllWide w [] = Unit {0}
AllWide w (xs ∷ xss) = (length xs ≡ w) × AllWide w xss

chunks_wide : {A : Type 0} (w n : ℕ) (xs : List A) → length xs ≡ n * w → AllWide w (first_chunks w n xs)
chunks_wide w zero xs long = tt
chunks_wide w (suc n) xs long = grind (arith, common_steps, length-take, suc-mul, length-drop, (chunks_wide w n (drop w xs) (omega (arith, length-drop w xs, long, suc-mul n w))))

select_wide : {A : Type 0} (w : ℕ) (xss : List (List A)) (ms : List Bool) → AllWide w xss → AllWide w (select xss ms)
select_wide w (xs ∷ xss) (true ∷ ms) wide = (wide.0, select_wide w xss ms wide.1)
select_wide w (xs ∷ xss) (false ∷ ms) wide = select_wide w xss ms wide.1
select_wide w xss ms wide = tt

mapped_wide : {A B : Type 0} (f : A → B) (w : ℕ) (xss : List (List A)) → AllWide w xss → AllWide w (map (map f) xss)
mapped_wide f w [] wide = tt
mapped_wide f w (xs ∷ xss) wide = (length-map xs f ∙ wide.0, mapped_wide f w xss wide.1)

length-joined : {A : Type 0} (w : ℕ) (xss : List (List A)) → AllWide w xss → length (joined xss) ≡ length xss * w
length-joined w [] wide = omega arith
length-joined w (xs ∷ xss) wide = omega (arith, length-append xs (joined xss), wide.0, length-joined w xss wide.1, suc-mul (length xss) w)

chunks_joined : {A : Type 0} (w : ℕ) (xss : List (List A)) → AllWide w xss → first_chunks w (length xss) (joined xss) ≡ xss
chunks_joined w [] wide = refl
chunks_joined w (xs ∷ xss) wide = rw (take_at xs (joined xss) w wide.0, drop_at xs (joined xss) w wide.0, chunks_joined w xss wide.1)

-- ---- the values of selected blocks

module _ {A : Type 0} (f : A → Value) (w n : ℕ) (xs ys : List A) (ms : List Bool) (long : length xs ≡ n * w) (count : n ≡ length ms) (is : ys ≡ joined (select (first_chunks w n xs) ms)) where
  abbrev chosen : List (List A)
  chosen = select (first_chunks w n xs) ms

  wide : AllWide w chosen
  wide = select_wide w (first_chunks w n xs) ms (chunks_wide w n xs long)

  as_many : length chosen ≡ count_true ms
  as_many = length-select (first_chunks w n xs) ms (length-chunks w n xs ∙ count)

  pub length-kept : length ys ≡ count_true ms * w
  length-kept = ap length is ∙ length-joined w chosen wide ∙ ap (λ m. m * w) as_many

  pub few_kept_values : length ys ≤ length xs
  few_kept_values = grind (arith, common_steps, length-kept, long, mul-le, as_many, few_kept, length-chunks)

  pub kept_blocks : blocks w (count_true ms) (map f ys) ≡ select (blocks w n (map f xs)) ms
  kept_blocks =
      sym (chunks_are w (count_true ms) (map f ys))
      ∙ ap (λ l. first_chunks w (count_true ms) l) (ap (map f) is ∙ mapped_joined f chosen)
      ∙ ap (λ m. first_chunks w m (joined (map (map f) chosen))) (sym as_many ∙ sym (length-map chosen (map f)))
      ∙ chunks_joined w (map (map f) chosen) (mapped_wide f w chosen wide)
      ∙ sym (select-map (map f) (first_chunks w n xs) ms)
      ∙ ap (λ l. select l ms) (sym (mapped_chunks f w n xs) ∙ chunks_are w n (map f xs))

-- ---- columns

-- The parts of a well-formed column of fixed-size lists.
pub list_facts : (c : Column) (size : ℕ) (child : Column) (validity : Option Bits) → IsFixedSizeList c size child validity → well_formed c ≡ true → HasBlocks size (row_count c) child validity
list_facts (FixedSizeList' width len p values valid) size child validity is formed = grind (arith, common_steps, has_blocks, HasBlocks)
list_facts c size child validity is formed = absurd is

list_rows_are : (c : Column) (size : ℕ) (child : Column) (validity : Option Bits) → IsFixedSizeList c size child validity → rows c ≡ block_rows size (row_count c) (rows child) validity
list_rows_are (FixedSizeList' width len p values valid) size child validity is = grind (arith, common_steps)
list_rows_are c size child validity is = absurd is

pub list_type : (c : Column) (size count : ℕ) (child : Column) (validity seen : Option Bits) (kept : Box Column Global) → IsFixedSizeList c size child validity → type_of kept.value ≡ type_of child →
    type_of (FixedSizeList size count kept seen) ≡ type_of c
list_type (FixedSizeList' width len p values valid) size count child validity seen kept is same = grind (arith, common_steps)
list_type c size count child validity seen kept is same = absurd is

module _ (c : Column) (size count : ℕ) (child : Column) (validity seen : Option Bits) (kept : Box Column Global) (ms : List Bool) (is : IsFixedSizeList c size child validity) (formed : well_formed c ≡ true)
    (long : length (rows c) ≡ length ms) (counts : count ≡ count_true ms) (valid : option_map (λ v. v.bits) seen ≡ option_map (λ v. select v.bits ms) validity) where
  has : HasBlocks size (row_count c) child validity
  has = list_facts c size child validity is formed

  same_count : row_count c ≡ length ms
  same_count = sym (length-rows c) ∙ long

  abbrev pub source : List (List Value)
  source = blocks size (length ms) (rows child)

  covers_source : Covers validity (length source)
  covers_source = λ v there. has.covered v there ∙ same_count ∙ sym (length-blocks size (length ms) (rows child))

  pub list_rows_kept : blocks size (count_true ms) (rows kept.value) ≡ select source ms → rows (FixedSizeList size count kept seen) ≡ select (rows c) ms
  list_rows_kept made = grind (arith, common_steps, kept_rows, covers_source, list_rows_are, same_count)

  pub list_formed_kept : row_count kept.value ≡ count_true ms * size → well_formed kept.value ≡ true → well_formed (FixedSizeList size count kept seen) ≡ true
  list_formed_kept fills child_formed = grind (arith, common_steps, length-select, few_kept, same_count, has, kept_covers)

-- ---- filtered struct rows, field by field

-- Row k of a filtered list is its row at the k-th position that is selected.
kept_row : (xs : List Value) (ms : List Bool) (k : ℕ) → length xs ≡ length ms → k < length (kept ms) → get_or (select xs ms) k Null ≡ get_or xs (get_or (kept ms) k 0) Null
kept_row xs ms k long lt = ap (λ l. get_or l k Null) (selected xs ms Null long) ∙ get_or-map (λ i. get_or xs i Null) (kept ms) k 0 Null lt

-- Row k of the filtered fields is the struct row at the k-th position that is selected.
kept_tuple : (fs : List (List Value)) (ms : List Bool) (k : ℕ) → All (λ f. length f ≡ length ms) fs → k < length (kept ms) → struct_at (map (λ f. select f ms) fs) k ≡ struct_at fs (get_or (kept ms) k 0)
kept_tuple fs ms k all lt = ap (λ values. Tuple (values_of values)) (each fs all)
  where
    each : (fs : List (List Value)) → All (λ f. length f ≡ length ms) fs → map (λ f. get_or f k Null) (map (λ f. select f ms) fs) ≡ map (λ f. get_or f (get_or (kept ms) k 0) Null) fs
    each [] all = refl
    each (f ∷ fs) all =
        let fits = λ (f : List Value). length f ≡ length ms in
        cc (kept_row f ms k (All-head fits f fs all) lt, each fs (All-tail fits f fs all))

-- The struct rows of the filtered fields are the filtered struct rows.
kept_plain : (fs : List (List Value)) (n count : ℕ) (ms : List Bool) → n ≡ length ms → count ≡ count_true ms → All (λ f. length f ≡ length ms) fs
    → select (map (struct_at fs) (range_with_len 0 n)) ms ≡ map (struct_at (map (λ f. select f ms) fs)) (range_with_len 0 count)
kept_plain fs n count ms long counts all =
    let plain = map (struct_at fs) (range_with_len 0 n) in
    let whole : length plain ≡ length ms = length-map-range_with_len (struct_at fs) 0 n ∙ long in
    fill_by_all (struct_at (map (λ f. select f ms) fs)) (select plain ms) count Null (length-select plain ms whole ∙ sym counts)
    (λ k lt.
    let inside : k < length (kept ms) = omega (arith, lt, counts, count_kept ms) in
    let below : get_or (kept ms) k 0 < n = omega (arith, kept_below ms k inside, long) in
    kept_row plain ms k whole inside
    ∙ get_or-map-range_with_len (struct_at fs) 0 n (get_or (kept ms) k 0) (get_or (kept ms) k 0) Null below (omega arith)
    ∙ sym (kept_tuple fs ms k all inside))

pub kept_tuples : (fs : List (List Value)) (n count : ℕ) (validity seen : Option Bits) (ms : List Bool) → n ≡ length ms → count ≡ count_true ms → All (λ f. length f ≡ length ms) fs → Covers validity n
    → option_map (λ v. v.bits) seen ≡ option_map (λ v. select v.bits ms) validity → struct_rows count (map (λ f. select f ms) fs) seen ≡ select (struct_rows n fs validity) ms
kept_tuples fs n count validity seen ms long counts all covers is =
    let plain = map (struct_at fs) (range_with_len 0 n) in
    ap (masked seen) (sym (kept_plain fs n count ms long counts all))
    ∙ select-masked validity seen plain ms (λ v there. covers v there ∙ sym (length-map-range_with_len (struct_at fs) 0 n)) is

-- ---- columns

-- The rows of a column that a mask selects.
abbrev pub kept_of : List Bool → Column → List Value
kept_of ms column = select (rows column) ms

field_lengths : (n : ℕ) (ms : List Bool) (cs : List Column) → n ≡ length ms → All (IsField n) cs → All (λ f. length f ≡ length ms) (map rows cs)
field_lengths n ms [] long all = All-nil (λ f. length f ≡ length ms)
field_lengths n ms (c ∷ cs) long all = grind (arith, common_steps, All-cons, length-rows, All-head, All-tail, (field_lengths n ms cs long (All-tail (IsField n) c cs all)))

pub kept_struct_rows : (n count : ℕ) (fields parts : Vec Column Global) (validity seen : Option Bits) (ms : List Bool) → well_formed (Struct n fields validity) ≡ true → n ≡ length ms → count ≡ count_true ms
    → map rows parts.items ≡ map (kept_of ms) fields.items → option_map (λ v. v.bits) seen ≡ option_map (λ v. select v.bits ms) validity → rows (Struct count parts seen) ≡ select (rows (Struct n fields validity)) ms
kept_struct_rows n count fields parts validity seen ms formed long counts made is =
    let has = has_fields n fields validity formed in
    rows-Struct count parts seen
    ∙ ap (λ fs. struct_rows count fs seen) (made ∙ sym (map-map (λ f. select f ms) rows fields.items))
    ∙ kept_tuples (map rows fields.items) n count validity seen ms long counts (field_lengths n ms fields.items long has.fields) has.covered is
    ∙ ap (λ vs. select vs ms) (sym (rows-Struct n fields validity))

pub kept_struct_formed : (n count : ℕ) (fields parts : Vec Column Global) (validity seen : Option Bits) (ms : List Bool) → well_formed (Struct n fields validity) ≡ true → n ≡ length ms → count ≡ count_true ms
    → All (IsField (count_true ms)) parts.items → option_map (λ v. v.bits) seen ≡ option_map (λ v. select v.bits ms) validity → well_formed (Struct count parts seen) ≡ true
kept_struct_formed n count fields parts validity seen ms formed long counts all is = grind (arith, common_steps, has_fields, length-select, fields_make, few_kept, kept_covers)

pub ruleset row_counts = (few_rows, length-rows)
