-- Rows of each layout fit the type of their column.
use Rattle.std.proofs.Common.{◌≡◌, ℕ, zero, suc, ℤ, ◌+◌, ◌-◌, ◌*◌, ◌≤◌, ◌<◌, Bool, true, false, All, List, [], ◌∷◌, map, length, take, Option, Vec, Box, Global, refl, ap, sym, subst, ◌∙◌, arith, length-take, get_or, nat_lt, replicate, slice_index_or, take_all}
use Rattle.sel_text.proofs.Common.{common_steps, cond_both, list_all, range_with_len, slice_range, is_utf8, nat_tests, All-head, All-tail, All-weaker, list_all-map, false≢true, Bits, hidden, masked, number_rows, list_of, blocks, struct_at, pieces, rows, type_of, well_formed, IsField, IsWellFormed, Shape, shapes_of, of_boolean, of_fixed_size_list, of_null, of_struct, of_utf8_view, all_text, Value, Null, Truth, Bytes, values_of, buffer_at, inline_bytes, inline_space, Column, LargeList, FixedSizeList, Struct, NullColumn, Boolean, LargeBinary, BinaryView, Utf8View, View, both, all_part, and_first, and_second, are_bytes, fields_fit, fits, fits_number, RowsFit}
use Rattle.std.proofs.Math.Nat.{mul-le-mul_right}
use Rattle.sel_arrow.specs.declared.binary.BinaryArray.{BinaryArray}
use Rattle.sel_arrow.specs.declared.binview.BinaryViewArray.{BinaryViewArray}
use Rattle.sel_arrow.specs.declared.boolean.BooleanArray.{BooleanArray}
use Rattle.sel_arrow.specs.declared.null.NullArray.{NullArray}
use Rattle.sel_arrow.specs.declared.utf8view.Utf8ViewArray.{Utf8ViewArray}
use Rattle.sel_arrow.proofs.NestedRows.{has_blocks, length-rows}
use Rattle.sel_arrow.proofs.Trees.{has_fields, rows-Struct}
use Rattle.sel_arrow.proofs.Types.{struct_type}
use Rattle.sel_text.proofs.Equalities.{list_back}
use Rattle.sel_text.proofs.Told.{all_fits}

-- ---- rows under a validity

hidden_all : (p : Value → Bool) → p Null ≡ true → (bits : List Bool) (vs : List Value) → list_all p vs ≡ true → list_all p (hidden bits vs) ≡ true
hidden_all p null [] vs all = all
hidden_all p null (b ∷ bits) [] all = refl
hidden_all p null (true ∷ bits) (v ∷ vs) all = both (p v) (list_all p (hidden bits vs)) (and_first _ _ all) (hidden_all p null bits vs (and_second _ _ all))
hidden_all p null (false ∷ bits) (v ∷ vs) all = both (p Null) (list_all p (hidden bits vs)) null (hidden_all p null bits vs (and_second _ _ all))

-- Under a validity, rows pass a test that null passes too.
masked_all : (p : Value → Bool) → p Null ≡ true → (validity : Option Bits) (vs : List Value) → list_all p vs ≡ true → list_all p (masked validity vs) ≡ true
masked_all p null validity vs all = grind (arith, common_steps, hidden_all)

masked_fit : (s : Shape) (validity : Option Bits) (vs : List Value) → list_all (fits s) vs ≡ true → list_all (fits s) (masked validity vs) ≡ true
masked_fit s validity vs fit = masked_all (fits s) refl validity vs fit

any_pass : {A : Type 0} (f : A → Value) (p : Value → Bool) → ((x : A) → p (f x) ≡ true) → (xs : List A) → list_all p (map f xs) ≡ true
any_pass f p each [] = refl
any_pass f p each (x ∷ xs) = both (p (f x)) (list_all p (map f xs)) (each x) (any_pass f p each xs)

-- ---- columns without children

pub nulls_fit : (s : Shape) (n : ℕ) → list_all (fits s) (replicate n Null) ≡ true
nulls_fit s zero = refl
nulls_fit s (suc n) = nulls_fit s n

-- Numbers fit once every value is read.
pub numbers_read : {T : Type 0} (s : Shape) (number : T → ℤ) (read values : List T) (validity : Option Bits) (i : ℕ) → read ≡ values → length read ≤ i → list_all (λ x. fits_number s (number x)) (take i read) ≡ true →
    list_all (fits s) (number_rows number values validity) ≡ true
numbers_read s number read values validity i same long all = grind (arith, common_steps, take_all, masked_fit, list_all-map, fits)

-- ---- bytes

-- Parts of a list whose elements pass a test.
parts_pass : {A : Type 0} (f : List A → Value) (p : A → Bool) (q : Value → Bool) → ((xs : List A) → list_all p xs ≡ true → q (f xs) ≡ true) → (offsets : List ℕ) (xs : List A) → list_all p xs ≡ true → list_all q (map f (pieces offsets xs)) ≡ true
parts_pass f p q each [] xs all = refl
parts_pass f p q each (a ∷ []) xs all = refl
parts_pass f p q each (a ∷ b ∷ offsets) xs all = grind (arith, common_steps, both, all_part, (parts_pass f p q each (b ∷ offsets) xs all))

-- ---- views

inline_are_bytes : (view : View) → are_bytes (inline_bytes view) ≡ true
inline_are_bytes view = all_part (λ byte. nat_lt byte 256) (inline_space view) 0 view.length (grind (arith, nat_tests))

buffer_are_bytes : (buffers : List (List ℕ)) (i : ℕ) → list_all are_bytes buffers ≡ true → are_bytes (buffer_at buffers i) ≡ true
buffer_are_bytes [] i all = refl
buffer_are_bytes (b ∷ buffers) zero all = and_first (are_bytes b) (list_all are_bytes buffers) all
buffer_are_bytes (b ∷ buffers) (suc i) all = buffer_are_bytes buffers i (and_second (are_bytes b) (list_all are_bytes buffers) all)

-- Whether a row is null or of bytes.
abbrev is_bytes : Value → Bool
is_bytes Null = true
is_bytes (Bytes bytes) = true
is_bytes row = false

-- Rows of bytes that are strings.
texts_fit : (rows : List Value) → list_all is_bytes rows ≡ true → all_text rows ≡ true → list_all (fits of_utf8_view) rows ≡ true
texts_fit [] bytes texts = refl
texts_fit (Null ∷ rows) bytes texts = texts_fit rows bytes texts
texts_fit (Bytes bs ∷ rows) bytes texts = both (is_utf8 bs) (list_all (fits of_utf8_view) rows) (and_first _ _ texts) (texts_fit rows bytes (and_second _ _ texts))
texts_fit (row ∷ rows) bytes texts = absurd (false≢true bytes)

-- ---- columns without children

pub null_column_fits : (c : Column) (array : NullArray) → c ≡ NullColumn array → RowsFit c
null_column_fits c array is = subst RowsFit (sym is) (nulls_fit of_null array.length)

pub boolean_column_fits : (c : Column) (array : BooleanArray) → c ≡ Boolean array → RowsFit c
boolean_column_fits c array is = subst RowsFit (sym is) (masked_fit of_boolean array.validity (map Truth array.values.bits) (any_pass Truth (fits of_boolean) (λ b. refl) array.values.bits))

pub binary_column_fits : (c : Column) (array : BinaryArray _ _) (bytes : List ℕ) → c ≡ LargeBinary array → bytes ≡ array.values → are_bytes bytes ≡ true → RowsFit c
binary_column_fits c array bytes is same all = grind (arith, common_steps, parts_pass, fits, masked_fit)

pub binview_column_fits : (c : Column) (array : BinaryViewArray) (buffers : List (List ℕ)) → c ≡ BinaryView array → buffers ≡ array.buffers → list_all are_bytes buffers ≡ true → RowsFit c
binview_column_fits c array buffers is same all = grind (arith, common_steps, cond_both, inline_are_bytes, all_part, buffer_are_bytes, masked_fit, any_pass)

pub string_column_fits : (c : Column) (array : Utf8ViewArray) → c ≡ Utf8View array → RowsFit c
string_column_fits c array is = grind (arith, common_steps, masked_all, any_pass, texts_fit)

-- ---- lists

pub list_column_fits : (c : Column) (offsets : List ℕ) (values : Box Column Global) (validity : Option Bits) → c ≡ LargeList offsets values validity → RowsFit values.value → RowsFit c
list_column_fits c offsets values validity is fit = grind (arith, common_steps, parts_pass, fits, all_fits, masked_fit)

-- ---- fixed-size lists

block_fits : (s : Shape) (size p : ℕ) (vs : List Value) → p + size ≤ length vs → list_all (fits s) vs ≡ true → fits (of_fixed_size_list s size) (list_of (slice_range vs p (p + size))) ≡ true
block_fits s size p vs inside fit = grind (arith, common_steps, length-take, list_back, both, nat_tests, all_fits, all_part, fits)

blocks_fit : (s : Shape) (size a n len : ℕ) (vs : List Value) → a + n ≤ len → len * size ≤ length vs → list_all (fits s) vs ≡ true →
    list_all (fits (of_fixed_size_list s size)) (map list_of (map (λ i. slice_range vs (i * size) (i * size + size)) (range_with_len a n))) ≡ true
blocks_fit s size a zero len vs inside fills fit = refl
blocks_fit s size a (suc n) len vs inside fills fit =
    let more : (a + 1) * size ≤ len * size = mul-le-mul_right size (omega (arith, inside)) in
    let one : (a + 1) * size ≡ a * size + size = omega arith in
    let within : a * size + size ≤ length vs = omega (arith, more, one, fills) in
    both (fits (of_fixed_size_list s size) (list_of (slice_range vs (a * size) (a * size + size)))) (list_all (fits (of_fixed_size_list s size)) (map list_of (map (λ i. slice_range vs (i * size) (i * size + size)) (range_with_len (a + 1) n))))
    (block_fits s size (a * size) vs within fit) (blocks_fit s size (a + 1) n len vs (omega (arith, inside)) fills fit)

pub block_column_fits : (c : Column) (size len : ℕ) (values : Box Column Global) (validity : Option Bits) → c ≡ FixedSizeList size len values validity → well_formed c ≡ true → RowsFit values.value → RowsFit c
block_column_fits c size len values validity is formed fit =
    let has = has_blocks size len values.value validity (ap well_formed (sym is) ∙ formed) in
    let s = type_of values.value in
    let vs = rows values.value in
    let fills : len * size ≤ length vs = omega (arith, has.fills, length-rows values.value) in
    subst RowsFit (sym is) (masked_fit (of_fixed_size_list s size) validity (map list_of (blocks size len vs)) (blocks_fit s size 0 len len vs (omega arith) fills fit))

-- ---- structs

entry_fits : (s : Shape) (vs : List Value) (i : ℕ) → list_all (fits s) vs ≡ true → fits s (slice_index_or vs i Null) ≡ true
entry_fits s [] i fit = refl
entry_fits s (v ∷ vs) zero fit = and_first (fits s v) (list_all (fits s) vs) fit
entry_fits s (v ∷ vs) (suc i) fit = entry_fits s vs i (and_second (fits s v) (list_all (fits s) vs) fit)

struct_fits : (fields : List Column) (i : ℕ) → All RowsFit fields → fields_fit (shapes_of (map type_of fields)) (values_of (map (λ field. slice_index_or field i Null) (map rows fields))) ≡ true
struct_fits [] i fit = refl
struct_fits (c ∷ fields) i fit =
    both (fits (type_of c) (slice_index_or (rows c) i Null)) (fields_fit (shapes_of (map type_of fields)) (values_of (map (λ field. slice_index_or field i Null) (map rows fields))))
    (entry_fits (type_of c) (rows c) i (All-head RowsFit c fields fit)) (struct_fits fields i (All-tail RowsFit c fields fit))

pub struct_column_fits : (c : Column) (len : ℕ) (fields : Vec Column Global) (validity : Option Bits) → c ≡ Struct len fields validity → All RowsFit fields.items → RowsFit c
struct_column_fits c len fields validity is fit =
    let ss = shapes_of (map type_of fields.items) in
    let plain = any_pass (struct_at (map rows fields.items)) (fits (of_struct ss)) (λ i. struct_fits fields.items i fit) (range_with_len 0 len) in
    let all = masked_fit (of_struct ss) validity (map (struct_at (map rows fields.items)) (range_with_len 0 len)) plain in
    ap (λ s. list_all (fits s) (rows c)) (struct_type c len fields validity is) ∙ ap (λ l. list_all (fits (of_struct ss)) l) (ap rows is ∙ rows-Struct len fields validity) ∙ all

pub ruleset column_fits = (null_column_fits, boolean_column_fits, binary_column_fits, binview_column_fits, string_column_fits, list_column_fits, block_column_fits, struct_column_fits)

-- The fields of a well-formed struct column are well-formed.
pub fields_formed : (c : Column) (len : ℕ) (fields : Vec Column Global) (validity : Option Bits) → c ≡ Struct len fields validity → well_formed c ≡ true → All IsWellFormed fields.items
fields_formed c len fields validity is formed =
    All-weaker (IsField len) IsWellFormed (λ field fit. fit.1) fields.items (has_fields len fields validity (ap well_formed (sym is) ∙ formed)).fields

-- Numbers that a type bounds are bytes.
pub bytes_from : (bytes : List ℕ) → ((k : ℕ) → get_or bytes k 0 < 256) → are_bytes bytes ≡ true
bytes_from [] each = refl
bytes_from (b ∷ bytes) each =
    let small = each 0 in
    let here : nat_lt b 256 ≡ true = grind (arith, nat_tests, small) in
    both (nat_lt b 256) (are_bytes bytes) here (bytes_from bytes (λ k. each (suc k)))
