-- Texts that grow part by part.
use Rattle.std.proofs.Common.{◌≡◌, ℕ, ◌+◌, ◌-◌, ◌≤◌, ◌<◌, List, [], ◌∷◌, ◌++◌, length, take, drop, map, get_or, length-take, length-drop, refl, ap, ◌∙◌, arith}
use Rattle.sel_text.proofs.Common.{common_steps, join_with_byte, slice_range, get_or-drop, map_more, length-map, list_of, struct_at, rows, type_of, Shape, shapes_of, Value, Null, values_of, Column, value_text, item_texts, item_shape, part_texts, part_shapes, text_of, parenthesized, field_text}

-- ---- parts separated by commas

join_push : (c : ℕ) (parts : List (List ℕ)) (part : List ℕ) → 0 < length parts → join_with_byte c (parts ++ part ∷ []) ≡ join_with_byte c parts ++ (c ∷ part)
join_push c [] part some = absurd (omega arith)
join_push c (x ∷ []) part some = refl
join_push c (x ∷ y ∷ more) part some = grind (arith, common_steps, (join_push c (y ∷ more) part (omega arith)))

-- A text, followed by an opening bracket and the parts so far.
abbrev pub opened : List ℕ → ℕ → List (List ℕ) → List ℕ
opened entry bracket parts = entry ++ (bracket ∷ join_with_byte 44 parts)

-- The first part.
pub opened_first : (entry old new : List ℕ) (bracket : ℕ) (parts more : List (List ℕ)) (part : List ℕ) → length parts ≡ 0 → more ≡ parts ++ part ∷ [] →
    old ≡ opened entry bracket parts → new ≡ old ++ part → new ≡ opened entry bracket more
opened_first entry old new bracket parts more part none is before now = grind (arith, common_steps)

-- A part after a comma, which is pushed as a character.
pub opened_more : (entry old put mid new char : List ℕ) (bracket : ℕ) (parts more : List (List ℕ)) (part : List ℕ) → 0 < length parts → more ≡ parts ++ part ∷ [] →
    old ≡ opened entry bracket parts → mid ≡ put → put ≡ old ++ char → char ≡ 44 ∷ [] → new ≡ mid ++ part → new ≡ opened entry bracket more
opened_more entry old put mid new char bracket parts more part some is before same pushed comma now = grind (arith, common_steps, join_push)

-- ---- rows

-- The row texts with one more row.
pub texts_more : {A : Type 0} (f : A → List ℕ) (xs : List A) (a i : ℕ) (d : A) → a ≤ i → i < length xs →
    map f (slice_range xs a (i + 1)) ≡ map f (slice_range xs a i) ++ f (get_or xs i d) ∷ []
texts_more f xs a i d le lt =
    let step : (i + 1) - a ≡ (i - a) + 1 = omega arith in
    let place : a + (i - a) ≡ i = omega arith in
    ap (λ n. map f (take n (drop a xs))) step
    ∙ map_more f (drop a xs) (i - a) d (rw length-drop (omega arith))
    ∙ ap (λ x. map f (slice_range xs a i) ++ f x ∷ []) (get_or-drop a xs (i - a) d ∙ ap (λ k. get_or xs k d) place)

pub texts_count : {A : Type 0} (f : A → List ℕ) (xs : List A) (a i : ℕ) → i ≤ length xs → length (map f (slice_range xs a i)) ≡ i - a
texts_count f xs a i le = rw (length-map, length-take, length-drop) (omega arith)

-- ---- lists and structs as values

pub listed_texts : (shape : Shape) (vs : List Value) → item_texts shape (values_of vs) ≡ map (value_text shape) vs
listed_texts shape [] = refl
listed_texts shape (v ∷ vs) = ap (λ l. value_text shape v ∷ l) (listed_texts shape vs)

pub list_text : (shape child : Shape) (vs : List Value) (v : Value) → list_of vs ≡ v → item_shape shape ≡ child → text_of child vs ≡ value_text shape v
list_text shape child vs v is of = grind (arith, common_steps, listed_texts)

pub tuple_texts : (place : ℕ) (fields : List Column) → part_texts (shapes_of (map type_of fields)) (values_of (map (λ field. get_or field place Null) (map rows fields))) ≡ map (field_text place) fields
tuple_texts place [] = refl
tuple_texts place (field ∷ fields) = ap (λ l. field_text place field ∷ l) (tuple_texts place fields)

pub tuple_text : (shape : Shape) (place : ℕ) (fields : List Column) (v : Value) → struct_at (map rows fields) place ≡ v → part_shapes shape ≡ shapes_of (map type_of fields) →
    parenthesized (map (field_text place) fields) ≡ value_text shape v
tuple_text shape place fields v is of = grind (arith, common_steps, tuple_texts)
