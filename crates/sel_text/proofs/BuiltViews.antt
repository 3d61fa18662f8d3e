-- Views into one data buffer that grows.
use Rattle.std.proofs.Common.{◌≡◌, ℕ, ◌+◌, ◌≤◌, ◌<◌, Bool, true, false, cond, Bor, List, [], ◌∷◌, ◌++◌, length, take, drop, map, arith, refl, ap, sym, subst, ◌∙◌, length-append, leb, IsTrue, leb-true, ltb-true}
use Rattle.sel_text.proofs.Common.{common_steps, list_all, nat_tests, map-append, length-map, take-append-drop, max_buffer_bytes, Value, Bytes, Shape, all_placed, inline_bytes, view_of, view_value, View, and_first, and_second, fits as fits_type, item_value, rows_read, all_placed_bytes, bytes_placed, exceeds_max, bytes_behind, bytes_stored, NullSlots, Item}
use Rattle.sel_arrow.proofs.GrownViews.{Named, far_new, near_new, placed_more}
use Rattle.sel_text.proofs.Shown.{IsOfBytes, stored_bytes}

-- ---- the view of the bytes that are appended

new_view : (store text : List ℕ) (v : View) → v ≡ view_of text 0 (length store) → (length text ≤ 12 → inline_bytes v ≡ text) → Named (store ++ bytes_behind text) v text
new_view store text v is near = decided (leb (length text) 12) refl
  where
    decided : (b : Bool) → leb (length text) 12 ≡ b → Named (store ++ bytes_behind text) v text
    decided true e = near_new (store ++ bytes_behind text) text v (length store) is e (near (leb-true _ _ e))
    decided false e =
        let behind : bytes_behind text ≡ text = ap (λ b. cond b [] text) e in
        subst (λ t. Named (store ++ t) v text) (sym behind) (far_new store text v is e)

-- ---- the views so far

-- The number of bytes of all values in the data buffer.
abbrev pub total_behind : List (List ℕ) → ℕ
total_behind [] = 0
total_behind (piece ∷ pieces) = length (bytes_behind piece) + total_behind pieces

total-append : (ps qs : List (List ℕ)) → total_behind (ps ++ qs) ≡ total_behind ps + total_behind qs
total-append [] qs = omega arith
total-append (p ∷ ps) qs = let rest = total-append ps qs in omega (arith, rest)

pub record Views (store : List ℕ) (views : List View) (ps : List (List ℕ)) : Type 0 where
  pub placed : IsTrue (all_placed (store ∷ []) views)
  pub shown : map (view_value (store ∷ [])) views ≡ map Bytes ps
  pub held : length store ≡ total_behind ps

pub views_more : (store grown : List ℕ) (views more : List View) (ps : List (List ℕ)) (p : List ℕ) (v : View) → Views store views ps → v ≡ view_of p 0 (length store) → (length p ≤ 12 → inline_bytes v ≡ p) →
    grown ≡ store ++ bytes_behind p → more ≡ views ++ v ∷ [] → Views grown more (ps ++ p ∷ [])
views_more store grown views more ps p v so is near grows adds =
    let wide = store ++ bytes_behind p in
    let now = placed_more store (bytes_behind p) p views v so.placed (new_view store p v is near) in
    let made : Views wide (views ++ v ∷ []) (ps ++ p ∷ []) = record {
      placed = now.0;
      shown = now.1 ∙ ap (λ l. l ++ Bytes p ∷ []) so.shown ∙ sym (map-append Bytes ps (p ∷ []));
      held = let both_parts = total-append ps (p ∷ []) in let before = so.held in omega (arith, length-append store (bytes_behind p), both_parts, before);
    } in
    subst (λ s. Views s more (ps ++ p ∷ [])) (sym grows) (subst (λ l. Views wide l (ps ++ p ∷ [])) (sym adds) made)

pub views_count : (store : List ℕ) (views : List View) (ps : List (List ℕ)) → Views store views ps → length views ≡ length ps
views_count store views ps so = sym (length-map views (view_value (store ∷ []))) ∙ ap length so.shown ∙ length-map ps Bytes

-- ---- the number of bytes that rows need in the data buffer

bytes_in_row : (s : Shape) → IsOfBytes s → (beneath : NullSlots) (row : Value) → fits_type s row ≡ true → length (bytes_behind (bytes_stored beneath row)) ≡ bytes_placed row
bytes_in_row s of beneath row fit = grind (arith, common_steps)

all_in_rows : (s : Shape) → IsOfBytes s → (beneath : NullSlots) (items : List (Bor Item)) → list_all (fits_type s) (rows_read items) ≡ true → total_behind (stored_bytes beneath items) ≡ all_placed_bytes (rows_read items)
all_in_rows s of beneath [] fit = refl
all_in_rows s of beneath (item ∷ items) fit =
    let row = item_value item.now in
    let first = bytes_in_row s of beneath row (and_first (fits_type s row) (list_all (fits_type s) (rows_read items)) fit) in
    let rest = all_in_rows s of beneath items (and_second (fits_type s row) (list_all (fits_type s) (rows_read items)) fit) in
    omega (arith, first, rest)

-- If one more row makes too many bytes for a data buffer, so do all rows.
pub past_bytes : (s : Shape) → IsOfBytes s → (beneath : NullSlots) (items : List (Bor Item)) (i : ℕ) (store p : List ℕ) (views : List View) → list_all (fits_type s) (rows_read items) ≡ true →
    Views store views (stored_bytes beneath (take i items)) → stored_bytes beneath (take (i + 1) items) ≡ stored_bytes beneath (take i items) ++ p ∷ [] →
    exceeds_max (length store + length (bytes_behind p)) ≡ true → exceeds_max (all_placed_bytes (rows_read items)) ≡ true
past_bytes s of beneath items i store p views fit so next past =
    let all = all_in_rows s of beneath items fit in
    let stored = λ (item : Bor Item). bytes_stored beneath (item_value item.now) in
    let cut = ap total_behind (ap (map stored) (sym (take-append-drop (i + 1) items)) ∙ map-append stored (take (i + 1) items) (drop (i + 1) items) ∙ ap (λ l. l ++ map stored (drop (i + 1) items)) next)
    ∙ total-append (stored_bytes beneath (take i items) ++ p ∷ []) (map stored (drop (i + 1) items)) in
    let here = total-append (stored_bytes beneath (take i items)) (p ∷ []) in
    let held = so.held in
    let many : max_buffer_bytes < length store + length (bytes_behind p) = ltb-true _ _ past in
    let more : max_buffer_bytes < all_placed_bytes (rows_read items) = omega (arith, all, cut, here, held, many) in
    grind (arith, nat_tests, more)

-- The rows need no more bytes than the data buffer has.
pub bytes_within : (s : Shape) → IsOfBytes s → (beneath : NullSlots) (items : List (Bor Item)) (store : List ℕ) (views : List View) → list_all (fits_type s) (rows_read items) ≡ true →
    Views store views (stored_bytes beneath items) → length store ≤ max_buffer_bytes → exceeds_max (all_placed_bytes (rows_read items)) ≡ false
bytes_within s of beneath items store views fit so few = grind (arith, common_steps, all_in_rows, nat_tests)
