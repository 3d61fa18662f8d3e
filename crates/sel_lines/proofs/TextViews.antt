-- Strings as words, and views of them into one data buffer that grows.
use Rattle.std.proofs.lemmas.Grind.{common_steps}
use Rattle.std.proofs.Common.{◌≡◌, ◌≢◌, ℕ, ◌+◌, ◌≤◌, ◌<◌, Bool, true, false, ◌&&◌, cond, Bor, List, [], ◌∷◌, ◌++◌, length, take, map, get_or, Option, Some, None, arith, refl, ap, sym, ◌∙◌, length-append, leb, IsTrue, is_some, unwrap_or, leb-true}
use Rattle.sel_lines.proofs.Common.{map-append, length-map, take_more, list_all-append, hidden, Value, Null, Bytes, both, byte_count, bytes_needed, string_value, text_row}
use Rattle.std.{specs.Str.IsUtf8, specs.Str.is_utf8, proofs.lemmas.Str.is_utf8-from_IsUtf8, proofs.lemmas.List.take-map}
use Rattle.sel_arrow.specs.{Texts.all_text, Texts.is_text, Views.all_placed, Views.inline_bytes, Views.view_of, Views.view_value, declared.view.View.View}
use Rattle.sel_arrow.proofs.GrownViews.{Named, far_new, near_new, placed_more}
use Rattle.sel_gather.proofs.{Grown.hidden-append, JoinedRows.needed-append, JoinedRows.needed_part}

-- ---- a string after `=`

pub text_some : (word text : List ℕ) → word ≡ 61 ∷ text → Some (Bytes text) ≡ string_value word
text_some word text is = ap string_value (sym is)

pub text_none : (word : List ℕ) → ((text : List ℕ) → word ≢ 61 ∷ text) → None ≡ string_value word
text_none word other = grind (arith, common_steps)

-- ---- the view of a string that is appended

new_view : (store text : List ℕ) (v : View) → v ≡ view_of text 0 (length store) → (length text ≤ 12 → inline_bytes v ≡ text) → Named (store ++ text) v text
new_view store text v is near = decided (leb (length text) 12) refl
  where
    decided : (b : Bool) → leb (length text) 12 ≡ b → Named (store ++ text) v text
    decided true e = near_new (store ++ text) text v (length store) is e (near (leb-true _ _ e))
    decided false e = far_new store text v is e

-- ---- the strings so far

pub record Growing (store : List ℕ) (views : List View) (flags : List Bool) (rows : List Value) : Type 0 where
  pub placed : IsTrue (all_placed (store ∷ []) views)
  pub shown : hidden flags (map (view_value (store ∷ [])) views) ≡ rows
  pub paired : length flags ≡ length views
  pub many : length views ≡ length rows
  pub held : length store ≡ bytes_needed rows
  pub texts : IsTrue (all_text rows)

flag_bytes : (b : Bool) (text : List ℕ) → (b ≡ false → text ≡ []) → byte_count (cond b (Bytes text) Null) ≡ length text
flag_bytes b text none = grind (arith, common_steps)

flag_text : (b : Bool) (text : List ℕ) → is_utf8 text ≡ true → is_text (cond b (Bytes text) Null) ≡ true
flag_text b text utf8 = grind (arith, common_steps)

-- One more string, or an empty string in a null slot.
pub grow : (store : List ℕ) (views : List View) (flags : List Bool) (rows : List Value) (text : List ℕ) (b : Bool) (v : View) → Growing store views flags rows
    → v ≡ view_of text 0 (length store) → (length text ≤ 12 → inline_bytes v ≡ text) → (b ≡ false → text ≡ []) → IsUtf8 text
    → Growing (store ++ text) (views ++ (v ∷ [])) (flags ++ (b ∷ [])) (rows ++ (cond b (Bytes text) Null ∷ []))
grow store views flags rows text b v so is near none utf8 =
    let now = placed_more store text text views v so.placed (new_view store text v is near) in
    let long : length flags ≡ length (map (view_value (store ∷ [])) views) = rw length-map so.paired in
    record {
      placed = now.0;
      shown = ap (hidden (flags ++ (b ∷ []))) now.1
          ∙ hidden-append flags (b ∷ []) (map (view_value (store ∷ [])) views) (Bytes text ∷ []) long
          ∙ ap (λ l. l ++ (cond b (Bytes text) Null ∷ [])) so.shown;
      paired = rw (length-append, length-append) (ap (λ n. n + 1) so.paired);
      many = rw (length-append, length-append) (ap (λ n. n + 1) so.many);
      held = let bytes = flag_bytes b text none in omega (arith, length-append store text, needed-append rows (cond b (Bytes text) Null ∷ []), so.held, bytes);
      texts = list_all-append is_text rows (cond b (Bytes text) Null ∷ []) ∙ both (all_text rows) (is_text (cond b (Bytes text) Null) && true) so.texts
          (both (is_text (cond b (Bytes text) Null)) true (flag_text b text (is_utf8-from_IsUtf8 text utf8)) refl);
    }

-- ---- the strings of the rows so far

row_text_is : (row : Option (Bor (List ℕ))) (d text : Bor (List ℕ)) (b : Bool) → text ≡ unwrap_or row d → b ≡ is_some row → cond b (Bytes text.now) Null ≡ text_row row
row_text_is row d text b is flag = grind (arith, common_steps)

beneath_null : (row : Option (Bor (List ℕ))) (d text : Bor (List ℕ)) (b : Bool) → text ≡ unwrap_or row d → d.now ≡ [] → b ≡ is_some row → b ≡ false → text.now ≡ []
beneath_null row d text b is empty flag none = grind (arith, common_steps)

one_row_more : (rows : List (Option (Bor (List ℕ)))) (i : ℕ) (e : Option (Bor (List ℕ))) → i < length rows
    → map text_row (take (i + 1) rows) ≡ map text_row (take i rows) ++ (text_row (get_or rows i e) ∷ [])
one_row_more rows i e lt = ap (map text_row) (take_more rows i e lt) ∙ map-append text_row (take i rows) (get_or rows i e ∷ [])

-- The bytes with one more row are at most those of all rows.
pub room : (rows : List (Option (Bor (List ℕ)))) (i : ℕ) (e : Option (Bor (List ℕ))) (d text : Bor (List ℕ)) → i < length rows → text ≡ unwrap_or (get_or rows i e) d → d.now ≡ []
    → bytes_needed (map text_row (take i rows)) + length text.now ≤ bytes_needed (map text_row rows)
room rows i e d text lt is empty =
    let row = get_or rows i e in
    let b = is_some row in
    let here = ap byte_count (row_text_is row d text b is refl) in
    let held = flag_bytes b text.now (beneath_null row d text b is empty refl) in
    let more = ap bytes_needed (one_row_more rows i e lt) ∙ needed-append (map text_row (take i rows)) (text_row row ∷ []) in
    omega (arith, more, here, held, needed_part (map text_row rows) (i + 1), ap bytes_needed (take-map text_row (i + 1) rows))

pub grow_step : (rows : List (Option (Bor (List ℕ)))) (i : ℕ) (e : Option (Bor (List ℕ))) (d text : Bor (List ℕ)) (store longer chars : List ℕ) (views more : List View) (flags others : List Bool) (v : View) (b : Bool) (at : ℕ)
    → i < length rows → Growing store views flags (map text_row (take i rows)) → text ≡ unwrap_or (get_or rows i e) d → d.now ≡ [] → b ≡ is_some (get_or rows i e)
    → chars ≡ text.now → at ≡ length store → v ≡ view_of chars 0 at → (length chars ≤ 12 → inline_bytes v ≡ chars) → IsUtf8 text.now
    → longer ≡ store ++ chars → more ≡ views ++ (v ∷ []) → others ≡ flags ++ (b ∷ []) → Growing longer more others (map text_row (take (i + 1) rows))
grow_step rows i e d text store longer chars views more flags others v b at lt so is empty flag read end viewed near utf8 isl ism iso =
    let row = get_or rows i e in
    let made = grow store views flags (map text_row (take i rows)) text.now b v so
    (viewed ∙ ap (λ n. view_of chars 0 n) end ∙ ap (λ t. view_of t 0 (length store)) read)
    (λ short. near (rw read short) ∙ read) (beneath_null row d text b is empty flag) utf8 in
    rw (isl, read, ism, iso, one_row_more rows i e lt, ← row_text_is row d text b is flag) made
