-- The text of parsed rows, and whether they fit their types.
use Rattle.std.proofs.Common.{◌≡◌, ◌≢◌, ℕ, zero, suc, ◌<◌, Bool, true, false, ◌&&◌, List, [], ◌∷◌, ◌++◌, length, map, get_or, Vec, Box, Global, refl, ap, sym, ◌∙◌, arith, ◌==◌}
use Rattle.sel_text.proofs.Common.{common_steps, list_all-append, list_all, eq-eqb, eqb-true, false_from_ne_true, IsUtf8-from_is_utf8, is_utf8-from_IsUtf8, shape_of, Shape, shapes_of, Value, Items, Values, values_of, both, and_first, and_second, fits, fits_bytes, all_fit, fields_fit, item_value, item_shape, text_of, part_texts, value_text, Item, ItemsItem}
use Rattle.sel_text.proofs.ItemRows.{list_is}
use Rattle.sel_text.proofs.Printed.{list_text}
use Rattle.sel_arrow.specs.declared.datatype.ArrowDataType.{ArrowDataType, LargeList, FixedSizeList}
use Rattle.sel_arrow.specs.declared.datatype.ArrowDataType.TheVariants.{LargeBinary, BinaryView, Utf8View, LargeList', FixedSizeList'}

pub all_fit_is : (s : Shape) (vs : List Value) → all_fit s (values_of vs) ≡ list_all (fits s) vs
all_fit_is s [] = refl
all_fit_is s (v ∷ vs) = ap (λ b. fits s v && b) (all_fit_is s vs)

-- Whether bytes are UTF-8.
pub ruleset strings = (false_from_ne_true, IsUtf8-from_is_utf8, is_utf8-from_IsUtf8)

-- ---- types without such values

pub no_list : (d : ArrowDataType) (vs : Values) → ((child : Box ArrowDataType Global) → d ≡ LargeList child → ⊥) → ((child : Box ArrowDataType Global) (size : ℕ) → d ≡ FixedSizeList child size → ⊥) → false ≡ fits (shape_of d) (Items vs)
no_list (LargeList' p child) vs not_so other = absurd (not_so _ refl)
no_list (FixedSizeList' p child size) vs not_so other = absurd (other _ size refl)
no_list d vs not_so other = refl

pub no_bytes : (d : ArrowDataType) (bytes : List ℕ) → (d ≡ LargeBinary → ⊥) → (d ≡ BinaryView → ⊥) → (d ≡ Utf8View → ⊥) → false ≡ fits_bytes (shape_of d) bytes
no_bytes LargeBinary bytes not_so other last = absurd (not_so refl)
no_bytes BinaryView bytes not_so other last = absurd (other refl)
no_bytes Utf8View bytes not_so other last = absurd (last refl)
no_bytes d bytes not_so other last = refl

-- ---- the size of a fixed-size list

pub other_size : (n m : ℕ) (b : Bool) → n ≢ m → false ≡ ((n == m) && b)
other_size n m b other = ap (λ t. t && b) (sym (false_from_ne_true (n == m) (λ same. other (eqb-true n m same))))

pub same_size : (n m : ℕ) (b : Bool) → n ≡ m → b ≡ ((n == m) && b)
same_size n m b same = ap (λ t. t && b) (sym (eq-eqb n m same))

-- ---- rows so far

pub all_grown : {A : Type 0} (p : A → Bool) (xs : List A) (x : A) → list_all p xs ≡ true → p x ≡ true → list_all p (xs ++ x ∷ []) ≡ true
all_grown p xs x fit here = list_all-append p xs (x ∷ []) ∙ both (list_all p xs) _ fit (both (p x) true here refl)

-- The notation of a list whose entries are of a type.
pub list_row : (s d : Shape) (item : Item) (items : Vec Item Global) (xs : List Item) → xs ≡ items.items → item ≡ ItemsItem items → item_shape d ≡ s →
    all_fit s (values_of (map item_value items.items)) ≡ fits d (Items (values_of (map item_value items.items))) →
    (list_all (fits s) (map item_value xs) ≡ fits d (item_value item)) × (text_of s (map item_value xs) ≡ value_text d (item_value item))
list_row s d item items xs same is child fit = grind (arith, common_steps, list_is, fits, all_fit_is, list_text)

-- ---- one row that does not fit

and_false : (b c : Bool) → false ≡ c → false ≡ (b && c)
and_false true c same = same
and_false false c same = refl

pub fields_fail : (ds : List ArrowDataType) (vs : List Value) (k : ℕ) (d : ArrowDataType) (v : Value) → k < length ds → k < length vs → fits (shape_of (get_or ds k d)) (get_or vs k v) ≡ false →
    false ≡ fields_fit (shapes_of (map shape_of ds)) (values_of vs)
fields_fail (x ∷ ds) (y ∷ vs) zero d v h g not_so = ap (λ b. b && fields_fit (shapes_of (map shape_of ds)) (values_of vs)) (sym not_so)
fields_fail (x ∷ ds) (y ∷ vs) (suc k) d v h g not_so = and_false (fits (shape_of x) y) _ (fields_fail ds vs k d v (omega (arith, h)) (omega (arith, g)) not_so)
fields_fail ds vs k d v h g not_so = absurd (omega (arith, h, g))

pub other_count : (ds : List ArrowDataType) (vs : List Value) → length ds ≢ length vs → false ≡ fields_fit (shapes_of (map shape_of ds)) (values_of vs)
other_count [] [] not_so = absurd (not_so refl)
other_count (d ∷ ds) (v ∷ vs) not_so = and_false (fits (shape_of d) v) _ (other_count ds vs (λ same. not_so (ap suc same)))
other_count ds vs not_so = refl

-- ---- one more field

pub fields_more : (ds : List ArrowDataType) (vs : List Value) (d : ArrowDataType) (v : Value) → length ds ≡ length vs → fields_fit (shapes_of (map shape_of ds)) (values_of vs) ≡ true → fits (shape_of d) v ≡ true →
    fields_fit (shapes_of (map shape_of (ds ++ d ∷ []))) (values_of (vs ++ v ∷ [])) ≡ true
fields_more [] [] d v same fit here = ap (λ b. b && true) here
fields_more (x ∷ ds) (y ∷ vs) d v same fit here = grind (arith, common_steps, both, fits, and_first, and_second, (fields_more ds vs d v (omega (arith, same)) (and_second (fits (shape_of x) y) _ fit) here))
fields_more ds vs d v same fit here = absurd (omega (arith, same))

pub parts_more : (ds : List ArrowDataType) (vs : List Value) (d : ArrowDataType) (v : Value) → length ds ≡ length vs →
    part_texts (shapes_of (map shape_of (ds ++ d ∷ []))) (values_of (vs ++ v ∷ [])) ≡ part_texts (shapes_of (map shape_of ds)) (values_of vs) ++ value_text (shape_of d) v ∷ []
parts_more [] [] d v same = refl
parts_more (x ∷ ds) (y ∷ vs) d v same = ap (λ l. value_text (shape_of x) y ∷ l) (parts_more ds vs d v (omega (arith, same)))
parts_more ds vs d v same = absurd (omega (arith, same))

pub parts_count : (ds : List ArrowDataType) (vs : List Value) → length ds ≡ length vs → length (part_texts (shapes_of (map shape_of ds)) (values_of vs)) ≡ length ds
parts_count [] [] same = refl
parts_count (x ∷ ds) (y ∷ vs) same = ap suc (parts_count ds vs (omega (arith, same)))
parts_count ds vs same = absurd (omega (arith, same))
