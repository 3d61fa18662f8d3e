-- Values that equal rows except in null slots.
use Rattle.std.proofs.Common.{◌≡◌, ℕ, ◌+◌, ◌<◌, Bool, true, List, [], ◌∷◌, ◌++◌, length, map, take, get_or, refl, ap, sym, ◌∙◌, arith, if◌then◌else◌}
use Rattle.std.specs.Borrow.{Bor}
use Rattle.std.proofs.lemmas.Simd.{map-map}
use Rattle.sel_text.proofs.Common.{common_steps, false≢true, all_at, list_all-map, list_all, length-map, map-append, map_more, take_more, hidden, Shape, of_boolean, of_large_binary, Value, Null, Truth, Bytes, is_valid, and_first, and_second, fits, item_value, rows_read, ShowsRows, is_view_shape, bytes_stored, bool_stored, NullSlots, Item}

-- The first row is shown, and so are the others.
each_shown : (row : Value) (rows : List Value) (v : Value) (vs : List Value) → ShowsRows (row ∷ rows) (v ∷ vs) → ((if is_valid row then v else Null) ≡ row) × ShowsRows rows vs
each_shown row rows v vs s = grind (arith, common_steps)

-- A row before others that are shown.
pub show_next : (row v : Value) (rows vs : List Value) → (is_valid row ≡ true → row ≡ v) → ShowsRows rows vs → ShowsRows (row ∷ rows) (v ∷ vs)
show_next row v rows vs same s = grind (arith, common_steps)

never_none : (row : Value) (rows : List Value) → ShowsRows (row ∷ rows) [] → ⊥
never_none row rows s = grind (arith, common_steps)

shown_length : (rows plain : List Value) → ShowsRows rows plain → length plain ≡ length rows
shown_length [] [] s = refl
shown_length [] (v ∷ vs) s = absurd s
shown_length (row ∷ rows) [] s = absurd (never_none row rows s)
shown_length (row ∷ rows) (v ∷ vs) s = let rest = shown_length rows vs (each_shown row rows v vs s).1 in omega (arith, rest)

-- Under the validity of the rows, the values are the rows.
hidden_shown : (rows plain : List Value) → ShowsRows rows plain → hidden (map is_valid rows) plain ≡ rows
hidden_shown [] [] s = refl
hidden_shown (row ∷ rows) (v ∷ vs) s =
    let both = each_shown row rows v vs s in
    ap (λ x. x ∷ hidden (map is_valid rows) vs) both.0 ∙ ap (λ l. row ∷ l) (hidden_shown rows vs both.1)
hidden_shown rows plain s = absurd (omega (arith, shown_length rows plain s))

-- Without a validity they are the rows if no row is null.
shown_all : (rows plain : List Value) → list_all (λ b. b) (map is_valid rows) ≡ true → ShowsRows rows plain → plain ≡ rows
shown_all [] [] all s = refl
shown_all (row ∷ rows) (v ∷ vs) all s =
    let both = each_shown row rows v vs s in
    let valid = and_first (is_valid row) (list_all (λ b. b) (map is_valid rows)) all in
    let first : v ≡ row = ap (λ b. if b then v else Null) (sym valid) ∙ both.0 in
    ap (λ x. x ∷ vs) first ∙ ap (λ l. row ∷ l) (shown_all rows vs (and_second (is_valid row) (list_all (λ b. b) (map is_valid rows)) all) both.1)
shown_all rows plain all s = absurd (omega (arith, shown_length rows plain s))

shown_append : (rows plain others more : List Value) → ShowsRows rows plain → ShowsRows others more → ShowsRows (rows ++ others) (plain ++ more)
shown_append [] [] others more s t = t
shown_append (row ∷ rows) (v ∷ vs) others more s t =
    let both = each_shown row rows v vs s in
    show_next row v (rows ++ others) (vs ++ more) (λ valid. sym both.0 ∙ ap (λ b. if b then v else Null) valid) (shown_append rows vs others more both.1 t)
shown_append rows plain others more s t = absurd (omega (arith, shown_length rows plain s))

-- ---- the parsed rows

-- The validity of each item.
abbrev pub valid_items : List (Bor Item) → List Bool
valid_items items = map (λ item. is_valid (item_value item.now)) items

pub items_hidden : (items : List (Bor Item)) (valid : List Bool) → valid ≡ valid_items items → (plain : List Value) → ShowsRows (rows_read items) plain → hidden valid plain ≡ rows_read items
items_hidden items valid is plain s = ap (λ l. hidden l plain) (is ∙ sym (map-map is_valid (λ (item : Bor Item). item_value item.now) items)) ∙ hidden_shown (rows_read items) plain s

pub items_shown : (items : List (Bor Item)) (valid : List Bool) → valid ≡ valid_items items → list_all (λ b. b) valid ≡ true → (plain : List Value) → ShowsRows (rows_read items) plain → plain ≡ rows_read items
items_shown items valid is all plain s = shown_all (rows_read items) plain (ap (list_all (λ b. b)) (sym (is ∙ sym (map-map is_valid (λ (item : Bor Item). item_value item.now) items))) ∙ all) s

-- A row of a type fits the type.
pub item_fits : (s : Shape) (items : List (Bor Item)) (i : ℕ) (item : Bor Item) → list_all (fits s) (rows_read items) ≡ true → i < length items → item ≡ get_or items i item → fits s (item_value item.now) ≡ true
item_fits s items i item fit inside is = grind (arith, common_steps, fits, all_at, list_all-map)

-- One more row.
pub shown_more : {A : Type 0} (value : A → Value) (items : List (Bor Item)) (i : ℕ) (item : Bor Item) (values grown : List A) (y : A) → i < length items → item ≡ get_or items i item →
    ShowsRows (rows_read (take i items)) (map value values) → ShowsRows (item_value item.now ∷ []) (value y ∷ []) → grown ≡ values ++ y ∷ [] → ShowsRows (rows_read (take (i + 1) items)) (map value grown)
shown_more value items i item values grown y inside is before here grows = grind (arith, common_steps, take_more, map-append, shown_append)

-- There are as many rows as items.
pub rows_count : (items : List (Bor Item)) → length (rows_read items) ≡ length items
rows_count items = length-map items (λ (item : Bor Item). item_value item.now)

pub shown_count : {A : Type 0} (value : A → Value) (items : List (Bor Item)) (values : List A) → ShowsRows (rows_read items) (map value values) → length values ≡ length items
shown_count value items values s = sym (length-map values value) ∙ shown_length (rows_read items) (map value values) s ∙ rows_count items

-- ---- booleans

pub truths_shown : (beneath : NullSlots) (items : List (Bor Item)) → list_all (fits of_boolean) (rows_read items) ≡ true → ShowsRows (rows_read items) (map Truth (map (λ item. bool_stored beneath (item_value item.now)) items))
truths_shown beneath [] fit = tt
truths_shown beneath (item ∷ items) fit = show_next (item_value item.now) _ _ _ (same (item_value item.now) (and_first _ _ fit)) (truths_shown beneath items (and_second _ _ fit))
  where
    same : (row : Value) → fits of_boolean row ≡ true → is_valid row ≡ true → row ≡ Truth (bool_stored beneath row)
    same Null fit valid = absurd (false≢true valid)
    same (Truth b) fit valid = refl
    same row fit valid = absurd (false≢true fit)

-- ---- bytes

-- Each row of the type that is not null is of bytes.
abbrev pub IsOfBytes : Shape → Type 0
IsOfBytes s = (row : Value) → fits s row ≡ true → is_valid row ≡ true → (bytes : List ℕ) × (row ≡ Bytes bytes)

pub of_binary : IsOfBytes of_large_binary
of_binary row fit valid = grind (arith, common_steps)

pub of_views : (s : Shape) → is_view_shape s ≡ true → IsOfBytes s
of_views s view row fit valid = grind (arith, common_steps)

-- The bytes that are stored for an item.
abbrev pub stored_in : NullSlots → Bor Item → List ℕ
stored_in beneath item = bytes_stored beneath (item_value item.now)

-- The bytes that are stored for each item.
abbrev pub stored_bytes : NullSlots → List (Bor Item) → List (List ℕ)
stored_bytes beneath items = map (stored_in beneath) items

pub stored_count : (beneath : NullSlots) (items : List (Bor Item)) → length (stored_bytes beneath items) ≡ length (rows_read items)
stored_count beneath items = length-map items (stored_in beneath) ∙ sym (rows_count items)

pub bytes_shown : (s : Shape) → IsOfBytes s → (beneath : NullSlots) (items : List (Bor Item)) → list_all (fits s) (rows_read items) ≡ true → ShowsRows (rows_read items) (map Bytes (stored_bytes beneath items))
bytes_shown s of beneath [] fit = tt
bytes_shown s of beneath (item ∷ items) fit = show_next (item_value item.now) (Bytes (stored_in beneath item)) _ _ same (bytes_shown s of beneath items (and_second _ _ fit))
  where
    same : is_valid (item_value item.now) ≡ true → item_value item.now ≡ Bytes (stored_in beneath item)
    same valid = let is = (of (item_value item.now) (and_first _ _ fit) valid).1 in is ∙ ap (λ row. Bytes (bytes_stored beneath row)) (sym is)

-- One more row.
pub stored_more : (beneath : NullSlots) (items : List (Bor Item)) (i : ℕ) (item : Bor Item) (bytes : List ℕ) → i < length items → item ≡ get_or items i item → bytes ≡ bytes_stored beneath (item_value item.now) →
    stored_bytes beneath (take (i + 1) items) ≡ stored_bytes beneath (take i items) ++ bytes ∷ []
stored_more beneath items i item bytes inside is here = grind (arith, common_steps, map_more)
