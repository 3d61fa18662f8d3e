-- Blocks at indices, and the rows that the child of a taken fixed-size list column needs.
use Rattle.sel_kernels.proofs.Common.{common_steps, is_none, ◌≡◌, ℕ, zero, suc, ◌+◌, ◌-◌, ◌*◌, ◌≤◌, ◌<◌, pos, true, List, [], ◌∷◌, ◌++◌, length, take, drop}
use Rattle.sel_kernels.proofs.Common.{map, refl, ap, sym, subst, ◌∙◌, negsuc, arith, get_or, append_assoc, length-append, ℤ, Option, Some, None, true≢false}
use Rattle.sel_kernels.proofs.Common.{◌&&◌, Box, Global, if◌then◌else◌, ForSome, take-append_seam, drop-append-add, leb-true, le-leb, ltb-true}
use Rattle.sel_kernels.proofs.Common.{length-replicate, take-append-drop, flat_map-append, mul-le, Bits, hidden, masked, number_rows, valid_at, Covers}
use Rattle.sel_kernels.proofs.Common.{blocks, block_rows, list_of, rows, row_count, well_formed, Value, Null, Number, Column, FixedSizeList, FixedSizeList'}
use Rattle.sel_kernels.proofs.Common.{all_at, and_first, and_second, HasBlocks, has_blocks, length-blocks, length-rows, length-number_rows, length-part}
use Rattle.sel_kernels.proofs.Common.{block_items, is_block_within, blocks_within, is_bare, HoldsBlocks, all_within, found, is_within, pick_of, take_rows}
use Rattle.sel_kernels.proofs.Common.{valid_pick, flat_map, suc-mul, mul_assoc, ◌⊎◌, inl, inr, ⊎_elim, false, Bool, All, cases_lt, get_or_past, All-append}
use Rattle.sel_kernels.proofs.Common.{All-cons, All-head, All-map, All-nil, All-tail, Limit, type_of, Shape, of_fixed_size_list, items_in, joined_items}
use Rattle.sel_kernels.proofs.Common.{ExceedsRows, exceeded_limits, listed_values, exceeded_blocks}
use Rattle.sel_arrow.specs.declared.column.Column.TheVariants.{Int8, Int16, Int32, Int64, Int128, UInt8, UInt16, UInt32, UInt64, UInt128}
use Rattle.sel_arrow.proofs.{NestedParts.part-block_rows, Rows.part-mapped}
use Rattle.sel_kernels.specs.Blocks.{block_at, IsBeginning}
use Rattle.sel_kernels.proofs.{KeptColumns.at_block, Takes.row_taken, Takes.validity_within, Takes.length-pick, Takes.all_pass}
use Rattle.std.{specs.Prelude.⊤, proofs.lemmas.List.Elements.All-replicate, proofs.lemmas.List.Elements.All-take, proofs.lemmas.List.Elements.All-drop}

-- ---- one more block

pub within_block : (size n : ℕ) (indices : List Value) (k : ℕ) (v : Value) → blocks_within size n indices ≡ true → k < length indices → v ≡ get_or indices k Null → is_block_within size n v ≡ true
within_block size n indices k v within h is = ap (is_block_within size n) is ∙ all_at (is_block_within size n) indices k Null within h

-- The blocks of the first indices are a prefix.
pub begun : {A : Type 0} (size : ℕ) (filler : A) (xs before ys : List A) (indices : List Value) (k : ℕ) → ys ≡ before ++ block_items size filler xs (take k indices) → IsBeginning ys (before ++ block_items size filler xs indices)
begun size filler xs before ys indices k is =
    let f = block_at size filler xs in
    let whole : before ++ flat_map f indices ≡ ys ++ flat_map f (drop k indices) =
    rw (is, append_assoc, ← flat_map-append f (take k indices) (drop k indices), take-append-drop) in
    sym (ap (take (length ys)) whole ∙ take-append_seam ys (flat_map f (drop k indices)))

-- ---- the blocks of one list

-- A block ends within the list.
block_ends : (size n i : ℕ) → is_block_within size n (Number (pos i)) ≡ true → i * size + size ≤ n
block_ends size n i h = omega (arith, leb-true ((i + 1) * size) n h, suc-mul i size)

-- The length of the block of an index.
block_size : (i size : ℕ) → i * size + size - i * size ≡ size
block_size i size = omega arith

length-block_at : {A : Type 0} (size : ℕ) (filler : A) (xs : List A) (v : Value) → is_block_within size (length xs) v ≡ true → length (block_at size filler xs v) ≡ size
length-block_at size filler xs (Number (pos i)) h = grind (arith, common_steps, block_size, length-part, block_ends)
length-block_at size filler xs v h = length-replicate size filler

pub length-block_items : {A : Type 0} (size : ℕ) (filler : A) (xs : List A) (indices : List Value) → blocks_within size (length xs) indices ≡ true → length (block_items size filler xs indices) ≡ length indices * size
length-block_items size filler xs [] h = omega arith
length-block_items size filler xs (v ∷ indices) h = grind (arith, common_steps, length-block_at, and_first, and_second, length-append, (length-block_items size filler xs indices (and_second (is_block_within size (length xs) v) _ h)))

block_of_items : {A : Type 0} (size : ℕ) (filler : A) (xs : List A) (indices : List Value) (k : ℕ) → blocks_within size (length xs) indices ≡ true → k < length indices →
    take size (drop (k * size) (block_items size filler xs indices)) ≡ block_at size filler xs (get_or indices k Null)
block_of_items size filler xs [] k h lt = absurd (omega (arith, lt))
block_of_items size filler xs (v ∷ indices) zero h lt = grind (arith, common_steps, length-block_at, and_first)
block_of_items size filler xs (v ∷ indices) (suc k) h lt =
    let long = length-block_at size filler xs v (and_first _ (blocks_within size (length xs) indices) h) in
    let place : suc k * size ≡ length (block_at size filler xs v) + k * size = omega (arith, long) in
    rw (place, drop-append-add) (block_of_items size filler xs indices k (and_second _ _ h) (omega (arith, lt)))

-- ---- the blocks in each level of a taken column

-- The values of a leaf column.
pub leaf_holds : {A : Type 0} (f : A → Value) → (size : ℕ) (filler : A) (xs ys : List A) (indices : List Value) → blocks_within size (length xs) indices ≡ true → ys ≡ block_items size filler xs indices →
    HoldsBlocks size (map f xs) indices (map f ys)
leaf_holds f size filler xs ys indices within is = λ k i h at.
    let block : take size (drop (k * size) ys) ≡ take size (drop (i * size) xs) =
    ap (λ l. take size (drop (k * size) l)) is ∙ block_of_items size filler xs indices k within h ∙ ap (block_at size filler xs) at ∙ ap (λ n. take n (drop (i * size) xs)) (block_size i size) in
    sym (part-mapped f ys None (k * size) size) ∙ ap (map f) block ∙ part-mapped f xs None (i * size) size

-- Rows of numbers.
pub numbers_within : {T : Type 0} (number : T → ℤ) → (size : ℕ) (xs : List T) (validity : Option Bits) (indices : List Value) → blocks_within size (length (number_rows number xs validity)) indices ≡ true →
    blocks_within size (length xs) indices ≡ true
numbers_within number size xs validity indices within = subst (λ n. blocks_within size n indices ≡ true) (length-number_rows number xs validity) within

pub numbers_hold : {T : Type 0} (number : T → ℤ) → (size : ℕ) (filler : T) (xs ys : List T) (validity : Option Bits) (indices : List Value) → validity ≡ None →
    blocks_within size (length (number_rows number xs validity)) indices ≡ true → ys ≡ block_items size filler xs indices →
    HoldsBlocks size (number_rows number xs validity) indices (number_rows number ys None)
numbers_hold number size filler xs ys validity indices bare within is =
    subst (λ v. HoldsBlocks size (number_rows number xs v) indices (number_rows number ys None)) (sym bare)
    (leaf_holds (λ x. Number (number x)) size filler xs ys indices (numbers_within number size xs validity indices within) is)

pub numbers_count : {T : Type 0} (number : T → ℤ) → (size : ℕ) (filler : T) (xs ys : List T) (validity : Option Bits) (indices : List Value) →
    blocks_within size (length (number_rows number xs validity)) indices ≡ true → ys ≡ block_items size filler xs indices → length ys ≡ length indices * size
numbers_count number size filler xs ys validity indices within is = ap length is ∙ length-block_items size filler xs indices (numbers_within number size xs validity indices within)

-- The block at a position lies within the blocks of all indices.
place_within : (size m : ℕ) (indices : List Value) (k : ℕ) → m ≡ length indices * size → k < length indices → k * size + size ≤ m
place_within size m indices k is h = omega (arith, is, suc-mul k size, mul-le (suc k) size (length indices) size (omega (arith, h)) (omega arith))

-- Fixed-size lists over such blocks.
pub level_holds : (size width n m : ℕ) (xs ys : List Value) (indices : List Value) → blocks_within size n indices ≡ true → m ≡ length indices * size → HoldsBlocks (size * width) xs indices ys →
    HoldsBlocks size (block_rows width n xs None) indices (block_rows width m ys None)
level_holds size width n m xs ys indices within count below = λ k i h at.
    let same : take (size * width) (drop (k * size * width) ys) ≡ take (size * width) (drop (i * size * width) xs) =
    ap (λ p. take (size * width) (drop p ys)) (mul_assoc k size width) ∙ below k i h at ∙ ap (λ p. take (size * width) (drop p xs)) (sym (mul_assoc i size width)) in
    let inside = block_ends size n i (within_block size n indices k (Number (pos i)) within h (sym at)) in
    sym (part-block_rows width m ys None (k * size) size (place_within size m indices k count h))
    ∙ ap (λ l. block_rows width size l None) same
    ∙ part-block_rows width n xs None (i * size) size inside

-- ---- nested blocks are in bounds

level_block : (size width n m : ℕ) (v : Value) → m ≡ n * width → is_block_within size n v ≡ true → is_block_within (size * width) m v ≡ true
level_block size width n m (Number (pos i)) is h =
    let deep : (i + 1) * size * width ≤ n * width = mul-le ((i + 1) * size) width n width (leb-true ((i + 1) * size) n h) (omega arith) in
    le-leb ((i + 1) * (size * width)) m (omega (arith, deep, is, mul_assoc (i + 1) size width))
level_block size width n m (Number (negsuc i)) is h = h
level_block size width n m v is h = refl

pub level_within : (size width n m : ℕ) (indices : List Value) → m ≡ n * width → blocks_within size n indices ≡ true → blocks_within (size * width) m indices ≡ true
level_within size width n m indices is = all_pass (is_block_within size n) (is_block_within (size * width) m) (λ v. level_block size width n m v is) indices

row_block : (width n m : ℕ) (v : Value) → m ≡ n * width → is_within n v ≡ true → is_block_within width m v ≡ true
row_block width n m (Number (pos i)) is h = grind (arith, common_steps, ltb-true, le-leb, mul-le)
row_block width n m (Number (negsuc i)) is h = h
row_block width n m v is h = refl

-- If indices are in bounds, so are the blocks of their rows.
pub rows_within : (width n m : ℕ) (indices : List Value) → m ≡ n * width → all_within n indices ≡ true → blocks_within width m indices ≡ true
rows_within width n m indices is = all_pass (is_within n) (is_block_within width m) (λ v. row_block width n m v is) indices

-- ---- a level of fixed-size lists

module _ (c : Column) (size width len m : ℕ) (values : Box Column Global) (validity : Option Bits) (indices : List Value) (is : c ≡ FixedSizeList width len values validity) where
  -- The child has no validity either.
  pub bare_below : is_bare c ≡ true → (validity ≡ None) × (is_bare values.value ≡ true)
  bare_below bare =
      let whole : (is_none validity && is_bare values.value) ≡ true = sym (ap is_bare is) ∙ bare in
      (none validity (and_first (is_none validity) (is_bare values.value) whole), and_second (is_none validity) (is_bare values.value) whole)
    where
      none : (v : Option Bits) → is_none v ≡ true → v ≡ None
      none None e = refl
      none (Some b) e = absurd (true≢false (sym e))

  pub blocks_are : well_formed c ≡ true → HasBlocks width len values.value validity
  blocks_are formed = has_blocks width len values.value validity (sym (ap well_formed is) ∙ formed)

  pub level_inside : well_formed c ≡ true → blocks_within size (row_count c) indices ≡ true → blocks_within (size * width) (row_count values.value) indices ≡ true
  level_inside formed within =
      let inside : blocks_within size len indices ≡ true = subst (λ n. blocks_within size n indices ≡ true) (ap row_count is) within in
      level_within size width len (row_count values.value) indices (blocks_are formed).fills inside

  pub level_taken : is_bare c ≡ true → blocks_within size (row_count c) indices ≡ true → m ≡ length indices * size → (ys : List Value) → HoldsBlocks (size * width) (rows values.value) indices ys →
      HoldsBlocks size (rows c) indices (block_rows width m ys None)
  level_taken bare within count ys below =
      let plain : rows c ≡ block_rows width len (rows values.value) None = ap rows is ∙ ap (block_rows width len (rows values.value)) (bare_below bare).0 in
      let inside : blocks_within size len indices ≡ true = subst (λ n. blocks_within size n indices ≡ true) (ap row_count is) within in
      subst (λ l. HoldsBlocks size l indices (block_rows width m ys None)) (sym plain) (level_holds size width len m (rows values.value) ys indices inside count below)

-- ---- the types of columns without validities at any depth

pub bare_kinds : (c : Column) → is_bare c ≡ true
    → ((x : _) → c ≡ Int8 x → ⊥) → ((x : _) → c ≡ Int16 x → ⊥) → ((x : _) → c ≡ Int32 x → ⊥) → ((x : _) → c ≡ Int64 x → ⊥) → ((x : _) → c ≡ Int128 x → ⊥)
    → ((x : _) → c ≡ UInt8 x → ⊥) → ((x : _) → c ≡ UInt16 x → ⊥) → ((x : _) → c ≡ UInt32 x → ⊥) → ((x : _) → c ≡ UInt64 x → ⊥) → ((x : _) → c ≡ UInt128 x → ⊥)
    → ((size len : ℕ) (values : Box Column Global) (validity : Option Bits) → c ≡ FixedSizeList size len values validity → ⊥) → ⊥
bare_kinds (Int8 x) h other _ _ _ _ _ _ _ _ _ _ = other x refl
bare_kinds (Int16 x) h _ other _ _ _ _ _ _ _ _ _ = other x refl
bare_kinds (Int32 x) h _ _ other _ _ _ _ _ _ _ _ = other x refl
bare_kinds (Int64 x) h _ _ _ other _ _ _ _ _ _ _ = other x refl
bare_kinds (Int128 x) h _ _ _ _ other _ _ _ _ _ _ = other x refl
bare_kinds (UInt8 x) h _ _ _ _ _ other _ _ _ _ _ = other x refl
bare_kinds (UInt16 x) h _ _ _ _ _ _ other _ _ _ _ = other x refl
bare_kinds (UInt32 x) h _ _ _ _ _ _ _ other _ _ _ = other x refl
bare_kinds (UInt64 x) h _ _ _ _ _ _ _ _ other _ _ = other x refl
bare_kinds (UInt128 x) h _ _ _ _ _ _ _ _ _ other _ = other x refl
bare_kinds (FixedSizeList' size len p values validity) h _ _ _ _ _ _ _ _ _ _ other = other size len _ validity refl
bare_kinds c h _ _ _ _ _ _ _ _ _ _ _ = true≢false (sym h)

-- ---- the rows that are taken

same_row : {A : Type 0} (f : A → Value) → (validity : Option Bits) (xs : List A) (d y : A) (index : Value) → ((i : ℕ) → index ≡ Number (pos i) → y ≡ get_or xs i d) →
    (if valid_pick validity (pick_of index) then f y else Null) ≡ (if valid_pick validity (pick_of index) then f (found d (xs ∷ []) (pick_of index)) else Null)
same_row f validity xs d y (Number (pos i)) same = ap (λ z. if valid_at validity i then f z else Null) (same i refl)
same_row f validity xs d y index same = refl

-- The values at null indices do not matter.
held_rows : {A : Type 0} (f : A → Value) → (validity : Option Bits) (xs ys : List A) (d : A) (indices : List Value) → Covers validity (length xs) → length ys ≡ length indices → all_within (length xs) indices ≡ true →
    ((k i : ℕ) → k < length indices → get_or indices k Null ≡ Number (pos i) → get_or ys k d ≡ get_or xs i d) →
    hidden (map (valid_pick validity) (map pick_of indices)) (map f ys) ≡ take_rows (masked validity (map f xs)) indices
held_rows f validity xs [] d [] covers long within same = refl
held_rows f validity xs (y ∷ ys) d (index ∷ indices) covers long within same =
    let row = same_row f validity xs d y index (λ i is. same 0 i (omega arith) is) ∙ row_taken f validity xs d index covers (and_first _ _ within) in
    let rest = held_rows f validity xs ys d indices covers (omega (arith, long)) (and_second _ _ within) (λ k i h is. same (suc k) i (omega (arith, h)) is) in
    (λ i. row i ∷ rest i)
held_rows f validity xs ys d indices covers long within same = absurd (omega (arith, long))

-- ---- rows in bounds have blocks in bounds
module _ (c : Column) (size len : ℕ) (values : Box Column Global) (validity : Option Bits) (indices : List Value) (is : c ≡ FixedSizeList size len values validity) (formed : well_formed c ≡ true)
    (within : all_within (length (rows c)) indices ≡ true) where
  whole_inside : all_within len indices ≡ true
  whole_inside = subst (λ n. all_within n indices ≡ true) (length-rows c ∙ ap row_count is) within

  pub whole_has : HasBlocks size len values.value validity
  whole_has = has_blocks size len values.value validity (sym (ap well_formed is) ∙ formed)

  pub whole_within : blocks_within size (row_count values.value) indices ≡ true
  whole_within = rows_within size len (row_count values.value) indices whole_has.fills whole_inside

  pub whole_validity : ForSome validity (λ v. all_within (length v.bits) indices ≡ true)
  whole_validity = validity_within validity len indices whole_has.covered whole_inside

pub blocks_taken : (c : Column) (size len : ℕ) (values : Box Column Global) (validity : Option Bits) → c ≡ FixedSizeList size len values validity → well_formed c ≡ true → (indices : List Value) →
    all_within (length (rows c)) indices ≡ true → (bits : Bits) → bits.bits ≡ map (valid_pick validity) (map pick_of indices) → (ys : List Value) → HoldsBlocks size (rows values.value) indices ys →
    block_rows size (length indices) ys (Some bits) ≡ take_rows (rows c) indices
blocks_taken c size len values validity is formed indices within bits valid ys holds =
    let has = has_blocks size len values.value validity (sym (ap well_formed is) ∙ formed) in
    let child = rows values.value in
    let n = length indices in
    let long : length (rows c) ≡ length (blocks size len child) = length-rows c ∙ ap row_count is ∙ sym (length-blocks size len child) in
    let inside : all_within (length (blocks size len child)) indices ≡ true = subst (λ m. all_within m indices ≡ true) long within in
    let covers : Covers validity (length (blocks size len child)) = subst (Covers validity) (sym (length-blocks size len child)) has.covered in
    let same : (k i : ℕ) → k < n → get_or indices k Null ≡ Number (pos i) → get_or (blocks size n ys) k [] ≡ get_or (blocks size len child) i [] =
    λ k i h at.
    let there : is_within (length (blocks size len child)) (Number (pos i)) ≡ true = ap (is_within (length (blocks size len child))) (sym at) ∙ all_at (is_within (length (blocks size len child))) indices k Null inside h in
    let below : i < len = omega (arith, ltb-true i (length (blocks size len child)) there, length-blocks size len child) in
    at_block size n ys k [] h ∙ holds k i h at ∙ sym (at_block size len child i [] below) in
    ap (λ l. hidden l (map list_of (blocks size n ys))) valid
    ∙ held_rows list_of validity (blocks size len child) (blocks size n ys) [] indices covers (length-blocks size n ys) inside same
    ∙ ap (λ l. take_rows l indices) (sym (ap rows is))

-- ---- the child of a fixed-size list column needs as many rows as the lists have entries, null or not

-- A fixed-size list row has as many child rows as the list size, and so has each of them, at each
-- depth.
abbrev pub IsShaped : Shape → Value → Type 0
IsShaped (of_fixed_size_list s width) v = (length (items_in width v) ≡ width) × All (IsShaped s) (items_in width v)
IsShaped s v = ⊤

null_shaped : (s : Shape) → IsShaped s Null
null_shaped (of_fixed_size_list s width) = (length-replicate width Null, All-replicate (IsShaped s) width Null (null_shaped s))
null_shaped s = tt

list_shaped : (s : Shape) (width : ℕ) (l : List Value) → length l ≡ width → All (IsShaped s) l → IsShaped (of_fixed_size_list s width) (list_of l)
list_shaped s width l long all = (ap length (listed_values l) ∙ long, subst (All (IsShaped s)) (sym (listed_values l)) all)

-- ---- rows under a validity

module _ (P : Value → Type 0) (null : P Null) where
  hidden_all : (bits : List Bool) (vs : List Value) → All P vs → All P (hidden bits vs)
  hidden_all [] vs all = all
  hidden_all (b ∷ bits) [] all = All-nil P
  hidden_all (true ∷ bits) (v ∷ vs) all = All-cons P v (hidden bits vs) (All-head P v vs all) (hidden_all bits vs (All-tail P v vs all))
  hidden_all (false ∷ bits) (v ∷ vs) all = All-cons P Null (hidden bits vs) null (hidden_all bits vs (All-tail P v vs all))

  masked_all : (validity : Option Bits) (vs : List Value) → All P vs → All P (masked validity vs)
  masked_all None vs all = all
  masked_all (Some b) vs all = hidden_all b.bits vs all

  found_all : (vs : List Value) (index : Value) → All P vs → P (found Null (vs ∷ []) (pick_of index))
  found_all vs (Number (pos i)) all = ⊎_elim (λ lt. all i Null lt) (λ le. subst P (sym (get_or_past vs i Null le)) null) (cases_lt i (length vs))
  found_all vs index all = null

  taken_all : (vs indices : List Value) → All P vs → All P (take_rows vs indices)
  taken_all vs [] all = All-nil P
  taken_all vs (index ∷ indices) all = All-cons P (found Null (vs ∷ []) (pick_of index)) (take_rows vs indices) (found_all vs index all) (taken_all vs indices all)

-- ---- the rows of a column

blocks_shaped : (s : Shape) (size len : ℕ) (xs : List Value) → length xs ≡ len * size → All (IsShaped s) xs → All (λ l. IsShaped (of_fixed_size_list s size) (list_of l)) (blocks size len xs)
blocks_shaped s size len xs fills all = λ k d h.
    let below : k < len = omega (arith, h, length-blocks size len xs) in
    let inside : k * size + size ≤ length xs = omega (arith, fills, suc-mul k size, mul-le (suc k) size len size (omega (arith, below)) (omega arith)) in
    let part = drop (k * size) xs in
    subst (λ l. IsShaped (of_fixed_size_list s size) (list_of l)) (sym (at_block size len xs k d below))
    (list_shaped s size (take size part) (length-part xs (k * size) size inside) (All-take (IsShaped s) size part (All-drop (IsShaped s) (k * size) xs all)))

pub rows_shaped : (c : Column) → well_formed c ≡ true → All (IsShaped (type_of c)) (rows c)
rows_shaped (FixedSizeList' size len p values validity) formed =
    let has = has_blocks size len values validity formed in
    let P = IsShaped (of_fixed_size_list (type_of values) size) in
    masked_all P (null_shaped (of_fixed_size_list (type_of values) size)) validity (map list_of (blocks size len (rows values)))
    (All-map P list_of (blocks size len (rows values)) (blocks_shaped (type_of values) size len (rows values) (length-rows values ∙ has.fills) (rows_shaped values has.child)))
rows_shaped c formed = λ k d h. tt

-- ---- their needs

joined_shaped : (s : Shape) (width : ℕ) (vs : List Value) → All (IsShaped (of_fixed_size_list s width)) vs → (length (joined_items width vs) ≡ length vs * width) × All (IsShaped s) (joined_items width vs)
joined_shaped s width [] all = (omega arith, All-nil (IsShaped s))
joined_shaped s width (v ∷ vs) all =
    let here = All-head (IsShaped (of_fixed_size_list s width)) v vs all in
    let rest = joined_shaped s width vs (All-tail (IsShaped (of_fixed_size_list s width)) v vs all) in (
      omega (arith, length-append (items_in width v) (joined_items width vs), here.0, rest.0, suc-mul (length vs) width),
      All-append (IsShaped s) (items_in width v) (joined_items width vs) here.1 rest.1,
    )

pub past_of_blocks : (s : Shape) (vs : List Value) (limit : Limit) → All (IsShaped s) vs → exceeded_blocks s (length vs) limit → exceeded_limits s vs limit
past_of_blocks (of_fixed_size_list s width) vs limit all (inl h) = inl (subst (λ n. ExceedsRows n limit) (sym (joined_shaped s width vs all).0) h)
past_of_blocks (of_fixed_size_list s width) vs limit all (inr h) =
    let below = joined_shaped s width vs all in
    inr (past_of_blocks s (joined_items width vs) limit below.1 (subst (λ n. exceeded_blocks s n limit) (sym below.0) h))
past_of_blocks s vs limit all h = absurd h

-- ---- the rows that are taken from a fixed-size list column
pub past_taken_blocks : (c : Column) (size len : ℕ) (values : Box Column Global) (validity : Option Bits) → c ≡ FixedSizeList size len values validity → well_formed c ≡ true → (indices : List Value) (limit : Limit) →
    ExceedsRows (length indices * size) limit ⊎ exceeded_blocks (type_of values.value) (length indices * size) limit → exceeded_limits (type_of c) (take_rows (rows c) indices) limit
past_taken_blocks c size len values validity is formed indices limit h =
    let s = type_of c in
    let count : length indices ≡ length (take_rows (rows c) indices) = sym (length-pick Null (rows c ∷ []) indices) in
    let here : exceeded_blocks s (length indices) limit = subst (λ t. exceeded_blocks t (length indices) limit) (sym (ap type_of is)) h in
    past_of_blocks s (take_rows (rows c) indices) limit (taken_all (IsShaped s) (null_shaped s) (rows c) indices (rows_shaped c formed)) (subst (λ n. exceeded_blocks s n limit) count here)
