-- Columns with children that are built from their rows.
use Rattle.sel_gather.proofs.Common.{fill_by_all, length-range_with_len, ◌≡◌, ℕ, zero, suc, ◌+◌, ◌-◌, ◌*◌, ◌≤◌, ◌<◌, true, false, Bool, List, [], ◌∷◌, ◌++◌}
use Rattle.sel_gather.proofs.Common.{length, take, drop, map, Option, refl, ap, sym, ◌∙◌, arith, get_or, length-append, if◌then◌else◌, slice_range}
use Rattle.sel_gather.proofs.Common.{range_with_len, length-map, get_or-map, length-replicate, ext_get_or, length-map-range_with_len, get_or-map-range_with_len}
use Rattle.sel_gather.proofs.Common.{common_steps, max_rows, Bits, IsRising, hidden, Covers, list_of, list_rows, blocks, block_rows, struct_at, struct_rows}
use Rattle.sel_gather.proofs.Common.{pieces, pieces_after, rows_between, last_offset, rows, well_formed, Value, Values, no_values, next_value, Null, Items}
use Rattle.sel_gather.proofs.Common.{Tuple, values_of, listed, is_valid, validities, Column, length-pieces, HasLists, HasBlocks, length-rows, length-blocks}
use Rattle.sel_gather.proofs.Common.{items_in, joined_items, part_at, parts_of, item_ends, bits_for}
use Rattle.std.proofs.lemmas.Simd.{map-map}
use Rattle.sel_gather.proofs.{EndsBy.ends_by_between, EndsBy.ends_by_last, EndsBy.ends_by_rise, EndsBy.list_ends, EndsBy.pieces_by, Grown.finished}
pub use Rattle.sel_gather.proofs.EachRow.{picked_all}

-- ---- rows of one layout

-- Null or a list.
abbrev pub IsListed : Value → Type 0
IsListed Null = Unit {0}
IsListed (Items _) = Unit {0}
IsListed v = ⊥

-- Null or a list of `width` values.
abbrev pub IsBlock : ℕ → Value → Type 0
IsBlock width Null = Unit {0}
IsBlock width (Items values) = length (listed values) ≡ width
IsBlock width v = ⊥

-- Null or a struct value with n fields.
abbrev pub IsTuple : ℕ → Value → Type 0
IsTuple n Null = Unit {0}
IsTuple n (Tuple values) = length (listed values) ≡ n
IsTuple n v = ⊥

pub values_listed : (vs : Values) → values_of (listed vs) ≡ vs
values_listed no_values = refl
values_listed (next_value v vs) = ap (next_value v) (values_listed vs)

-- Values that are rebuilt from the rows, under the validity of the rows, are the rows.
hidden_again : {A : Type 0} (P : Value → Type 0) (f : A → Value) (h : Value → A) → ((v : Value) → P v → is_valid v ≡ true → f (h v) ≡ v) → ((v : Value) → is_valid v ≡ false → v ≡ Null) →
    (vs : List Value) → ((k : ℕ) → P (get_or vs k Null)) → hidden (validities vs) (map f (map h vs)) ≡ vs
hidden_again P f h back null [] all = refl
hidden_again {A} P f h back null (v ∷ vs) all =
    let one : (b : Bool) → is_valid v ≡ b → (if b then f (h v) else Null) ≡ v =
    λ b. elim b as (λ x. is_valid v ≡ x → (if x then f (h v) else Null) ≡ v) [
      | true ↦ λ e. back v (all 0) e
      | false ↦ λ e. sym (null v e)
    ]
    in
    let rest = hidden_again P f h back null vs (λ k. all (suc k)) in
    ap (λ x. x ∷ hidden (validities vs) (map f (map h vs))) (one (is_valid v) refl) ∙ ap (λ l. v ∷ l) rest

pub only_null : (v : Value) → is_valid v ≡ false → v ≡ Null
only_null v = grind (arith, common_steps)

-- ---- lists with offsets

pub rising_ends : (vs : List Value) → IsRising (0 ∷ item_ends 0 vs)
rising_ends vs = rw list_ends (ends_by_rise (items_in 0) vs)

pub ends_between : (vs : List Value) → rows_between (0 ∷ item_ends 0 vs) ≡ length vs
ends_between vs = ap (λ l. rows_between (0 ∷ l)) (list_ends 0 vs) ∙ ends_by_between (items_in 0) vs

pub ends_last : (vs : List Value) → last_offset (0 ∷ item_ends 0 vs) ≡ length (joined_items 0 vs)
ends_last vs = rw list_ends (ends_by_last (items_in 0) vs)

list_back : (v : Value) → IsListed v → is_valid v ≡ true → list_of (items_in 0 v) ≡ v
list_back v = grind (arith, common_steps, values_listed)

-- A list column that is built from its rows has these rows.
pub lists_rebuilt : (vs : List Value) (offsets : List ℕ) (child : List Value) (validity : Option Bits) (n : ℕ) → ((k : ℕ) → IsListed (get_or vs k Null)) → length vs ≡ n →
    offsets ≡ 0 ∷ item_ends 0 vs → child ≡ joined_items 0 vs → bits_for n validity ≡ validities vs → list_rows offsets child validity ≡ vs
lists_rebuilt vs offsets child validity n all long ends below valid =
    let parts = pieces (0 ∷ item_ends 0 vs) (joined_items 0 vs) in
    let count = length-pieces (0 ∷ item_ends 0 vs) (joined_items 0 vs) ∙ ends_between vs ∙ long in
    ap (λ l. list_rows l child validity) ends ∙ ap (λ l. list_rows (0 ∷ item_ends 0 vs) l validity) below
    ∙ finished list_of parts validity (validities vs) n valid count
    ∙ ap (λ ps. hidden (validities vs) (map list_of ps)) (ap (λ l. pieces_after 0 l (joined_items 0 vs)) (list_ends 0 vs) ∙ pieces_by (items_in 0) [] vs)
    ∙ hidden_again IsListed list_of (items_in 0) list_back only_null vs all

-- The parts of the column fit together.
pub lists_fit : (vs : List Value) (offsets : List ℕ) (values : Column) (validity : Option Bits) (n : ℕ) → length vs ≡ n → n ≤ max_rows →
    offsets ≡ 0 ∷ item_ends 0 vs → rows values ≡ joined_items 0 vs → Covers validity n → well_formed values ≡ true → HasLists offsets values validity
lists_fit vs offsets values validity n long few ends below covered formed = grind (arith, common_steps, ends_between, length-rows, ends_last, rising_ends)

-- ---- fixed-size lists

block_length : (w : ℕ) (v : Value) → IsBlock w v → length (items_in w v) ≡ w
block_length w v = grind (arith, common_steps, length-replicate)

pub blocks_length : (w : ℕ) (vs : List Value) → ((k : ℕ) → IsBlock w (get_or vs k Null)) → length (joined_items w vs) ≡ length vs * w
blocks_length w [] all = omega arith
blocks_length w (v ∷ vs) all =
    let one = block_length w v (all 0) in
    let rest = blocks_length w vs (λ k. all (suc k)) in
    let sum = length-append (items_in w v) (joined_items w vs) in
    omega (arith, one, rest, sum)

drop_past : {A : Type 0} (xs ys : List A) (n : ℕ) → drop (length xs + n) (xs ++ ys) ≡ drop n ys
drop_past [] ys n = let same : 0 + n ≡ n = omega arith in ap (λ k. drop k ys) same
drop_past (x ∷ xs) ys n = let same : length (x ∷ xs) + n ≡ suc (length xs + n) = omega arith in ap (λ k. drop k (x ∷ (xs ++ ys))) same ∙ drop_past xs ys n

-- The child rows of list k, from the concatenated child rows.
block_at : (w : ℕ) (vs : List Value) (k : ℕ) → ((i : ℕ) → IsBlock w (get_or vs i Null)) → k < length vs → take w (drop (k * w) (joined_items w vs)) ≡ items_in w (get_or vs k Null)
block_at w [] k all h = absurd (omega (arith, h))
block_at w (v ∷ vs) zero all h =
    let one : length (items_in w v) ≡ w = block_length w v (all 0) in
    grind (arith, common_steps, one)
block_at w (v ∷ vs) (suc k) all h =
    let one : length (items_in w v) ≡ w = block_length w v (all 0) in
    let rest = block_at w vs k (λ i. all (suc i)) (omega arith) in
    let place : suc k * w ≡ length (items_in w v) + k * w = omega (arith, one) in
    let past = drop_past (items_in w v) (joined_items w vs) (k * w) in
    ap (λ n. take w (drop n (items_in w v ++ joined_items w vs))) place ∙ ap (take w) past ∙ rest

blocks_of : (w n : ℕ) (vs : List Value) → ((i : ℕ) → IsBlock w (get_or vs i Null)) → length vs ≡ n → blocks w n (joined_items w vs) ≡ map (items_in w) vs
blocks_of w n vs all long =
    let xs = joined_items w vs in
    ext_get_or [] (blocks w n xs) (map (items_in w) vs) (length-blocks w n xs ∙ sym long ∙ sym (length-map vs (items_in w)))
    (λ k h.
    let below : k < n = omega (arith, h, length-blocks w n xs) in
    let width : (k * w + w) - k * w ≡ w = omega arith in
    get_or-map-range_with_len (λ i. slice_range xs (i * w) (i * w + w)) 0 n k k [] below (omega arith)
    ∙ ap (λ m. take m (drop (k * w) xs)) width ∙ block_at w vs k all (omega (arith, below, long)) ∙ sym (get_or-map (items_in w) vs k Null [] (omega (arith, below, long))))

block_back : (w : ℕ) (v : Value) → IsBlock w v → is_valid v ≡ true → list_of (items_in w v) ≡ v
block_back w v = grind (arith, common_steps, values_listed)

-- A fixed-size list column that is built from its rows has these rows.
pub blocks_rebuilt : (w : ℕ) (vs : List Value) (child : List Value) (validity : Option Bits) (n : ℕ) → ((k : ℕ) → IsBlock w (get_or vs k Null)) → length vs ≡ n →
    child ≡ joined_items w vs → bits_for n validity ≡ validities vs → block_rows w n child validity ≡ vs
blocks_rebuilt w vs child validity n all long below valid =
    ap (λ l. block_rows w n l validity) below
    ∙ finished list_of (blocks w n (joined_items w vs)) validity (validities vs) n valid (length-blocks w n (joined_items w vs))
    ∙ ap (λ ps. hidden (validities vs) (map list_of ps)) (blocks_of w n vs all long)
    ∙ hidden_again (IsBlock w) list_of (items_in w) (block_back w) only_null vs all

pub blocks_fit : (w : ℕ) (vs : List Value) (values : Column) (validity : Option Bits) (n : ℕ) → ((k : ℕ) → IsBlock w (get_or vs k Null)) → length vs ≡ n → n ≤ max_rows → w ≤ max_rows →
    rows values ≡ joined_items w vs → Covers validity n → well_formed values ≡ true → HasBlocks w n values validity
blocks_fit w vs values validity n all long few narrow below covered formed = grind (arith, common_steps, length-rows, blocks_length)

-- ---- struct rows

-- The values of a list, by position.
by_place : {A : Type 0} (xs : List A) (d : A) (n : ℕ) → length xs ≡ n → map (λ j. get_or xs j d) (range_with_len 0 n) ≡ xs
by_place xs d n long = sym (fill_by_all (λ j. get_or xs j d) xs n d long (λ k h. refl))

abbrev parts_in : ℕ → Value → List Value
parts_in m v = map (λ j. part_at j v) (range_with_len 0 m)

abbrev tuple_of : List Value → Value
tuple_of vs = Tuple (values_of vs)

tuple_back : (m : ℕ) (v : Value) → IsTuple m v → is_valid v ≡ true → tuple_of (parts_in m v) ≡ v
tuple_back m v = elim v as (λ x. IsTuple m x → is_valid x ≡ true → tuple_of (parts_in m x) ≡ x) [
  | Null ↦ λ h e. absurd (cc e)
  | Tuple values ↦ λ h e. ap tuple_of (by_place (listed values) Null m h) ∙ ap Tuple (values_listed values)
  | _ ↦ λ h e. absurd h
]

tuple_of_row : (m : ℕ) (vs : List Value) (k : ℕ) → k < length vs → struct_at (parts_of m vs) k ≡ tuple_of (parts_in m (get_or vs k Null))
tuple_of_row m vs k h =
    ap tuple_of (map-map (λ field. get_or field k Null) (λ j. map (part_at j) vs) (range_with_len 0 m) ∙ each (range_with_len 0 m))
  where
    each : (js : List ℕ) → map (λ j. get_or (map (part_at j) vs) k Null) js ≡ map (λ j. part_at j (get_or vs k Null)) js
    each [] = refl
    each (j ∷ js) = ap (λ x. x ∷ map (λ j. get_or (map (part_at j) vs) k Null) js) (get_or-map (part_at j) vs k Null Null h) ∙ ap (λ l. part_at j (get_or vs k Null) ∷ l) (each js)

struct_of : (m n : ℕ) (vs : List Value) → length vs ≡ n → map (struct_at (parts_of m vs)) (range_with_len 0 n) ≡ map tuple_of (map (parts_in m) vs)
struct_of m n vs long =
    let fs = parts_of m vs in
    let size = length-map-range_with_len (struct_at fs) 0 n in
    let right = map tuple_of (map (parts_in m) vs) in
    let count : length right ≡ n = length-map (map (parts_in m) vs) tuple_of ∙ length-map vs (parts_in m) ∙ long in
    ext_get_or Null (map (struct_at fs) (range_with_len 0 n)) right (size ∙ sym count)
    (λ k h.
    let below : k < n = omega (arith, h, size) in
    let inside : k < length vs = omega (arith, below, long) in
    get_or-map-range_with_len (struct_at fs) 0 n k k Null below (omega arith) ∙ tuple_of_row m vs k inside
    ∙ sym (get_or-map tuple_of (map (parts_in m) vs) k [] Null (omega (arith, inside, length-map vs (parts_in m))) ∙ ap tuple_of (get_or-map (parts_in m) vs k Null [] inside)))

-- A struct column that is built from its rows has these rows.
pub tuples_rebuilt : (m : ℕ) (vs : List Value) (fields : List (List Value)) (validity : Option Bits) (n : ℕ) → ((k : ℕ) → IsTuple m (get_or vs k Null)) → length vs ≡ n →
    fields ≡ parts_of m vs → bits_for n validity ≡ validities vs → struct_rows n fields validity ≡ vs
tuples_rebuilt m vs fields validity n all long below valid =
    ap (λ l. struct_rows n l validity) below
    ∙ finished (struct_at (parts_of m vs)) (range_with_len 0 n) validity (validities vs) n valid (length-range_with_len 0 n)
    ∙ ap (hidden (validities vs)) (struct_of m n vs long)
    ∙ hidden_again (IsTuple m) tuple_of (parts_in m) (tuple_back m) only_null vs all
