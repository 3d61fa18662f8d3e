-- Views into one data buffer to which bytes are appended.
use Rattle.std.proofs.Common.{◌≡◌, ℕ, ◌+◌, ◌≤◌, Bool, true, false, ◌&&◌, cond, List, [], ◌∷◌, ◌++◌, length, map, get_or, arith, refl, ap, sym, subst, ◌∙◌, length-append, length-drop, leb, ltb, ◌==◌}
use Rattle.sel_arrow.proofs.Common.{slice_range, map-append, take_all, take-append-le, drop-append-le, list_all-append, Bytes}
use Rattle.std.proofs.Math.Seq.{drop-append_seam}
use Rattle.sel_arrow.specs.Views.{all_placed, inline_bytes, is_inline, is_placed, view_of, view_value, word_at}
use Rattle.sel_arrow.specs.declared.view.View.{View}
use Rattle.sel_arrow.proofs.Lists.{both, and_first, and_second}

-- Whether the range of a view lies within the bytes, and whether its prefix is the first four bytes
-- of that range.
abbrev fits : List ℕ → View → Bool
fits bytes v = leb (v.offset + v.length) (length bytes)

abbrev starts : List ℕ → View → Bool
starts bytes v = v.prefix == word_at (slice_range bytes v.offset (v.offset + v.length)) 0

near_value : (old new : List (List ℕ)) (v : View) → is_inline v ≡ true → view_value new v ≡ view_value old v
near_value old new v e = rw e refl

near_placed : (bs : List (List ℕ)) (v : View) → is_inline v ≡ true → is_placed bs v ≡ true
near_placed bs v e = rw e refl

far_placed : (bs : List (List ℕ)) (v : View) → is_inline v ≡ false → is_placed bs v ≡ ((ltb v.buffer_idx (length bs) && fits (get_or bs v.buffer_idx []) v) && starts (get_or bs v.buffer_idx []) v)
far_placed bs v e = rw e refl

range_grown : (store more : List ℕ) (a n : ℕ) → a + n ≤ length store → slice_range (store ++ more) a (a + n) ≡ slice_range store a (a + n)
range_grown store more a n inside = grind (arith, length-drop, drop-append-le, take-append-le)

abbrev Kept : List ℕ → List ℕ → View → Type 0
Kept store more v = (is_placed ((store ++ more) ∷ []) v ≡ true) × (view_value ((store ++ more) ∷ []) v ≡ view_value (store ∷ []) v)

far_kept : (store more : List ℕ) (v : View) (i : ℕ) → v.buffer_idx ≡ i → is_inline v ≡ false
    → ((ltb i 1 && fits (get_or (store ∷ []) i []) v) && starts (get_or (store ∷ []) i []) v) ≡ true → Kept store more v
far_kept store more v i at e placed = grind (arith, range_grown, length-append)

kept : (store more : List ℕ) (v : View) → is_placed (store ∷ []) v ≡ true → Kept store more v
kept store more v placed = decided (is_inline v) refl
  where
    decided : (b : Bool) → is_inline v ≡ b → Kept store more v
    decided true e = (near_placed ((store ++ more) ∷ []) v e, near_value (store ∷ []) ((store ++ more) ∷ []) v e)
    decided false e = far_kept store more v v.buffer_idx refl e (sym (far_placed (store ∷ []) v e) ∙ placed)

all_kept : (store more : List ℕ) (vs : List View) → all_placed (store ∷ []) vs ≡ true
    → (all_placed ((store ++ more) ∷ []) vs ≡ true) × (map (view_value ((store ++ more) ∷ [])) vs ≡ map (view_value (store ∷ [])) vs)
all_kept store more [] placed = (refl, refl)
all_kept store more (v ∷ vs) placed =
    let here = kept store more v (and_first (is_placed (store ∷ []) v) (all_placed (store ∷ []) vs) placed) in
    let rest = all_kept store more vs (and_second (is_placed (store ∷ []) v) (all_placed (store ∷ []) vs) placed) in (
      both (is_placed ((store ++ more) ∷ []) v) (all_placed ((store ++ more) ∷ []) vs) here.0 rest.0,
      ap (λ x. x ∷ map (view_value ((store ++ more) ∷ [])) vs) here.1 ∙ ap (λ l. view_value (store ∷ []) v ∷ l) rest.1,
    )

-- ---- the view of appended bytes

abbrev far_view : ℕ → List ℕ → View
far_view at text = record { length = length text; prefix = word_at text 0; buffer_idx = 0; offset = at }

abbrev near_view : List ℕ → View
near_view text = record { length = length text; prefix = word_at text 0; buffer_idx = word_at text 4; offset = word_at text 8 }

range_behind : (store text : List ℕ) → slice_range (store ++ text) (length store) (length store + length text) ≡ text
range_behind store text = grind (arith, drop-append_seam, take_all)

-- A well-formed view with the bytes `text`.
abbrev pub Named : List ℕ → View → List ℕ → Type 0
Named store v text = (is_placed (store ∷ []) v ≡ true) × (view_value (store ∷ []) v ≡ Bytes text)

-- A view of at most 12 bytes, with any data buffer.
pub near_new : (store text : List ℕ) (v : View) (at : ℕ) → v ≡ view_of text 0 at → leb (length text) 12 ≡ true → inline_bytes v ≡ text → Named store v text
near_new store text v at is few near = grind arith

far_named : (store text : List ℕ) → is_inline (far_view (length store) text) ≡ false → Named (store ++ text) (far_view (length store) text) text
far_named store text e = grind (arith, range_behind, length-append)

-- A view of more than 12 bytes, which are appended to the data buffer.
pub far_new : (store text : List ℕ) (v : View) → v ≡ view_of text 0 (length store) → leb (length text) 12 ≡ false → Named (store ++ text) v text
far_new store text v is many =
    let far : v ≡ far_view (length store) text = is ∙ ap (λ b. cond b (near_view text) (far_view (length store) text)) many in
    subst (λ x. Named (store ++ text) x text) (sym far) (far_named store text many)

-- One more view, after bytes are appended to the data buffer.
pub placed_more : (store more text : List ℕ) (views : List View) (v : View) → all_placed (store ∷ []) views ≡ true → Named (store ++ more) v text
    → (all_placed ((store ++ more) ∷ []) (views ++ v ∷ []) ≡ true) × (map (view_value ((store ++ more) ∷ [])) (views ++ v ∷ []) ≡ map (view_value (store ∷ [])) views ++ Bytes text ∷ [])
placed_more store more text views v placed named =
    let bs = (store ++ more) ∷ [] in
    let old = all_kept store more views placed in (
      list_all-append (is_placed bs) views (v ∷ []) ∙ both (all_placed bs views) (is_placed bs v && true) old.0 (both (is_placed bs v) true named.0 refl),
      map-append (view_value bs) views (v ∷ []) ∙ ap (λ l. l ++ view_value bs v ∷ []) old.1 ∙ ap (λ x. map (view_value (store ∷ [])) views ++ x ∷ []) named.1,
    )
