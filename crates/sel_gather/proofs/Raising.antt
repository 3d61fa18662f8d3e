-- Views into the data buffers of several columns, concatenated in order.
use Rattle.sel_gather.proofs.Common.{common_steps, ◌≡◌, ℕ, zero, suc, ◌+◌, ◌≤◌, ◌<◌, get_or, Bool, true, false, ◌&&◌, List, [], ◌∷◌, ◌++◌, length, take, drop, map, replicate}
use Rattle.sel_gather.proofs.Common.{Option, refl, ap, sym, ◌∙◌, arith, length-append, append_assoc, zero-add, subst, leb, ltb, flat_map, list_all}
use Rattle.sel_gather.proofs.Common.{range_with_len, slice_range, ltb-true, lt-ltb, lt-leb, append-nil, length-map, length-replicate, map-append, take_more}
use Rattle.sel_gather.proofs.Common.{get_or-flat_map, get_or-map-range_with_len, length-map-range_with_len, map-range_with_len_more, Bits, hidden, masked}
use Rattle.sel_gather.proofs.Common.{Covers, Bytes, is_inline, is_placed, view_value, word_at, both, and_first, and_second, all_part, raised, starts_of, part_bits}
use Rattle.std.specs.Prelude.{◌==◌}
use Rattle.std.proofs.lemmas.Grind.{flat_map-append}
use Rattle.std.proofs.lemmas.List.Folds.{length-flat_map-take, list_all-append}
use Rattle.sel_arrow.specs.declared.view.View.{View}
use Rattle.sel_gather.proofs.{Grown.grown_lengths, Grown.hidden-append, Grown.part_hidden}
use Rattle.sel_runs.proofs.Windows.{window_more}

-- ---- concatenated parts

-- Entry i of `some` is entry i + k of `all`.
abbrev pub Behind : {A : Type 0} → A → List A → List A → ℕ → Type 0
Behind d all some k = (i : ℕ) → i < length some → (i + k < length all) × (get_or all (i + k) d ≡ get_or some i d)

-- The parts before a position, followed by the one at the position.
pub join_more : {X A : Type 0} (part : X → List A) (xs : List X) (i : ℕ) (x : X) → i < length xs → x ≡ get_or xs i x → flat_map part (take (i + 1) xs) ≡ flat_map part (take i xs) ++ part x
join_more part xs i x h is = grind (arith, common_steps, take_more, flat_map-append, append-nil)

-- The number of their entries.
pub count_more : {X A : Type 0} (part : X → List A) (xs : List X) (i : ℕ) (x : X) → i < length xs → x ≡ get_or xs i x → length (flat_map part (take (i + 1) xs)) ≡ length (flat_map part (take i xs)) + length (part x)
count_more part xs i x h is = ap length (join_more part xs i x h is) ∙ length-append (flat_map part (take i xs)) (part x)

-- This number is at most that of all parts.
pub count_room : {X A : Type 0} (part : X → List A) (xs : List X) (i : ℕ) (x : X) → i < length xs → x ≡ get_or xs i x → length (flat_map part (take i xs)) + length (part x) ≤ length (flat_map part xs)
count_room part xs i x h is =
    let same = ap (λ y. length (part y)) is in
    omega (arith, same, length-flat_map-take part xs i x h)

start_at : {X A : Type 0} (part : X → List A) (xs : List X) (starts : List ℕ) (i : ℕ) → starts ≡ starts_of part xs → i < length xs → get_or starts i 0 ≡ length (flat_map part (take i xs))
start_at part xs starts i e h = ap (λ l. get_or l i 0) e ∙ get_or-map-range_with_len (λ j. length (flat_map part (take j xs))) 0 (length xs) i i 0 h (zero-add i)

pub starts_long : {X A : Type 0} (part : X → List A) (xs : List X) (starts : List ℕ) → starts ≡ starts_of part xs → length starts ≡ length xs
starts_long part xs starts e = ap length e ∙ length-map-range_with_len (λ j. length (flat_map part (take j xs))) 0 (length xs)

-- One more start.
pub starts_more : {X A : Type 0} (part : X → List A) (xs : List X) (old new : List ℕ) (i k : ℕ) → old ≡ map (λ j. length (flat_map part (take j xs))) (range_with_len 0 i) → k ≡ length (flat_map part (take i xs)) →
    new ≡ old ++ k ∷ [] → new ≡ map (λ j. length (flat_map part (take j xs))) (range_with_len 0 (i + 1))
starts_more part xs old new i k e is g =
    let start : ℕ → ℕ = λ j. length (flat_map part (take j xs)) in
    g ∙ ap (λ l. l ++ k ∷ []) e ∙ ap (λ n. map start (range_with_len 0 i) ++ n ∷ []) is ∙ sym (map-range_with_len_more start 0 i i (zero-add i))

part_behind : {X A : Type 0} (d : A) (part : X → List A) (xs : List X) (i : ℕ) (x : X) (k : ℕ) → i < length xs → x ≡ get_or xs i x → k ≡ length (flat_map part (take i xs)) → Behind d (flat_map part xs) (part x) k
part_behind d part xs i x k h is e = grind (arith, common_steps, count_room, get_or-flat_map)

pub source_behind : {X A : Type 0} (d : A) (part : X → List A) (xs : List X) (all : List A) (starts : List ℕ) (i : ℕ) (x : X) → flat_map part xs ≡ all → starts ≡ starts_of part xs → i < length xs → x ≡ get_or xs i x →
    Behind d all (part x) (get_or starts i 0)
source_behind d part xs all starts i x joined e h is =
    subst (λ l. Behind d l (part x) (get_or starts i 0)) joined (part_behind d part xs i x (get_or starts i 0) h is (start_at part xs starts i e h))

pub source_room : {X A : Type 0} (part : X → List A) (xs : List X) (all : List A) (starts : List ℕ) (i : ℕ) (x : X) (m : ℕ) → flat_map part xs ≡ all → starts ≡ starts_of part xs → i < length xs → x ≡ get_or xs i x →
    length all ≤ m → get_or starts i 0 + length (part x) ≤ m
source_room part xs all starts i x m joined e h is few = omega (arith, ap length joined, start_at part xs starts i e h, count_room part xs i x h is, few)

-- ---- one view

inline_same : (v : View) (k : ℕ) → is_inline v ≡ true → raised v k ≡ v
inline_same v k e = rw e refl

abbrev moved : View → ℕ → View
moved v k = record { length = v.length; prefix = v.prefix; buffer_idx = v.buffer_idx + k; offset = v.offset }

far_moved : (v : View) (k : ℕ) → is_inline v ≡ false → raised v k ≡ moved v k
far_moved v k e = rw e refl

-- Views stay unchanged if their data buffers come first.
pub unraised : (vs : List View) (k : ℕ) → k ≡ 0 → map (λ v. raised v k) vs ≡ vs
unraised [] k none = refl
unraised (v ∷ vs) k none =
    let same : v.buffer_idx + k ≡ v.buffer_idx = omega (arith, none) in
    (λ i. one v same i ∷ unraised vs k none i)
  where
    one : (v : View) → v.buffer_idx + k ≡ v.buffer_idx → raised v k ≡ v
    one v same = by (is_inline v) refl
      where
        by : (b : Bool) → is_inline v ≡ b → raised v k ≡ v
        by true e = inline_same v k e
        by false e = far_moved v k e ∙ ap (λ n. let w : View = record { length = v.length; prefix = v.prefix; buffer_idx = n; offset = v.offset } in w) same

pub inline_value : (all some : List (List ℕ)) (v : View) → is_inline v ≡ true → view_value all v ≡ view_value some v
inline_value all some v e = rw e refl

pub inline_placed : (all : List (List ℕ)) (v : View) → is_inline v ≡ true → is_placed all v ≡ true
inline_placed all v e = rw e refl

pub far_value : (bs : List (List ℕ)) (v : View) → is_inline v ≡ false → view_value bs v ≡ Bytes (slice_range (get_or bs v.buffer_idx []) v.offset (v.offset + v.length))
far_value bs v e = rw e refl

-- Whether the range of a view lies within the bytes, and whether its prefix is the first four bytes
-- of that range.
abbrev fits : List ℕ → View → Bool
fits bytes v = leb (v.offset + v.length) (length bytes)

abbrev starts : List ℕ → View → Bool
starts bytes v = v.prefix == word_at (slice_range bytes v.offset (v.offset + v.length)) 0

pub far_placed : (bs : List (List ℕ)) (v : View) → is_inline v ≡ false → is_placed bs v ≡ ((ltb v.buffer_idx (length bs) && fits (get_or bs v.buffer_idx []) v) && starts (get_or bs v.buffer_idx []) v)
far_placed bs v e = rw e refl

-- The data buffer of a view exists.
far_there : (bs : List (List ℕ)) (v : View) → is_inline v ≡ false → is_placed bs v ≡ true → v.buffer_idx < length bs
far_there bs v e placed = grind (arith, common_steps, ltb-true, and_first, far_placed)

-- The buffer index of a view can be increased.
pub room_to_raise : (bs : List (List ℕ)) (v : View) (k m : ℕ) → is_placed bs v ≡ true → k + length bs ≤ m → 12 < v.length → v.buffer_idx + k ≤ m
room_to_raise bs v k m placed h long = omega (arith, h, far_there bs v (lt-leb v.length 12 long) placed)

-- A view with an increased buffer index has the same bytes.
raised_value : (all some : List (List ℕ)) (k : ℕ) (v : View) → Behind [] all some k → is_placed some v ≡ true → view_value all (raised v k) ≡ view_value some v
raised_value all some k v behind placed = decided (is_inline v) refl
  where
    decided : (b : Bool) → is_inline v ≡ b → view_value all (raised v k) ≡ view_value some v
    decided true e = ap (view_value all) (inline_same v k e) ∙ inline_value all some v e
    decided false e =
        let same = (behind v.buffer_idx (far_there some v e placed)).1 in
        ap (view_value all) (far_moved v k e) ∙ far_value all (moved v k) e ∙ ap (λ bytes. Bytes (slice_range bytes v.offset (v.offset + v.length))) same ∙ sym (far_value some v e)

-- It is again in range with the right prefix.
raised_placed : (all some : List (List ℕ)) (k : ℕ) (v : View) → Behind [] all some k → is_placed some v ≡ true → is_placed all (raised v k) ≡ true
raised_placed all some k v behind placed = decided (is_inline v) refl
  where
    decided : (b : Bool) → is_inline v ≡ b → is_placed all (raised v k) ≡ true
    decided true e = ap (is_placed all) (inline_same v k e) ∙ inline_placed all v e
    decided false e =
        let there = behind v.buffer_idx (far_there some v e placed) in
        let old = get_or some v.buffer_idx [] in
        let inside = ltb v.buffer_idx (length some) in
        let parts = sym (far_placed some v e) ∙ placed in
        let fit : fits old v ≡ true = and_second inside (fits old v) (and_first (inside && fits old v) (starts old v) parts) in
        let start : starts old v ≡ true = and_second (inside && fits old v) (starts old v) parts in
        let now : ltb (v.buffer_idx + k) (length all) ≡ true = lt-ltb _ _ there.0 in
        ap (is_placed all) (far_moved v k e) ∙ far_placed all (moved v k) e ∙ ap (λ bytes. (ltb (v.buffer_idx + k) (length all) && fits bytes v) && starts bytes v) there.1
        ∙ both (ltb (v.buffer_idx + k) (length all) && fits old v) (starts old v) (both (ltb (v.buffer_idx + k) (length all)) (fits old v) now fit) start

-- ---- several views

pub raised_values : (all some : List (List ℕ)) (k : ℕ) (vs : List View) → Behind [] all some k → list_all (is_placed some) vs ≡ true → map (view_value all) (map (λ v. raised v k) vs) ≡ map (view_value some) vs
raised_values all some k [] behind placed = refl
raised_values all some k (v ∷ vs) behind placed = grind (arith, common_steps, raised_value, and_first, and_second, (raised_values all some k vs behind (and_second (is_placed some v) (list_all (is_placed some) vs) placed)))

pub all_raised : (all some : List (List ℕ)) (k : ℕ) (vs : List View) → Behind [] all some k → list_all (is_placed some) vs ≡ true → list_all (is_placed all) (map (λ v. raised v k) vs) ≡ true
all_raised all some k [] behind placed = refl
all_raised all some k (v ∷ vs) behind placed = grind (arith, common_steps, both, raised_placed, and_first, and_second, (all_raised all some k vs behind (and_second (is_placed some v) (list_all (is_placed some) vs) placed)))

-- One more view of a part.
pub raised_more : {A B : Type 0} (f : A → B) (old so_far new : List B) (xs ys : List A) (a i : ℕ) (d : A) (y : B) → a + i < length xs → so_far ≡ old ++ map f (take i (drop a xs)) → ys ≡ xs → y ≡ f (get_or ys (a + i) d) →
    new ≡ so_far ++ y ∷ [] → new ≡ old ++ map f (take (i + 1) (drop a xs))
raised_more f old so_far new xs ys a i d y h e same is g = grind (arith, common_steps, append_assoc, window_more, map-append)

-- ---- views after a part of a source, or nulls, are appended

pub grown_views : (all some : List (List ℕ)) (k : ℕ) (old new xs : List View) (bits longer : List Bool) (validity : Option Bits) (a n : ℕ) → length bits ≡ length old → a + n ≤ length xs →
    Behind [] all some k → list_all (is_placed some) xs ≡ true → new ≡ old ++ map (λ v. raised v k) (take n (drop a xs)) → longer ≡ bits ++ part_bits a n validity →
    hidden longer (map (view_value all) new) ≡ hidden bits (map (view_value all) old) ++ take n (drop a (masked validity (map (view_value some) xs)))
grown_views all some k old new xs bits longer validity a n long inside behind placed e g =
    let f = view_value all in
    let more = part_bits a n validity in
    let part = take n (drop a xs) in
    let up = map (λ v. raised v k) part in
    ap (λ l. hidden l (map f new)) g ∙ ap (λ l. hidden (bits ++ more) (map f l)) e ∙ ap (λ l. hidden (bits ++ more) l) (map-append f old up)
    ∙ hidden-append bits more (map f old) (map f up) (long ∙ sym (length-map old f))
    ∙ ap (λ l. hidden bits (map f old) ++ hidden more l) (raised_values all some k part behind (all_part (is_placed some) xs a n placed))
    ∙ ap (λ l. hidden bits (map f old) ++ l) (part_hidden (view_value some) xs validity a n inside)

pub views_lengths : (k : ℕ) (old new xs : List View) (bits longer : List Bool) (validity : Option Bits) (a n : ℕ) → length bits ≡ length old → a + n ≤ length xs → Covers validity (length xs) →
    new ≡ old ++ map (λ v. raised v k) (take n (drop a xs)) → longer ≡ bits ++ part_bits a n validity → length longer ≡ length new
views_lengths k old new xs bits longer validity a n long inside covers e g = grind (arith, common_steps, grown_lengths, length-append, length-map)

pub views_placed : (all some : List (List ℕ)) (k : ℕ) (old new xs : List View) (a n : ℕ) → Behind [] all some k → list_all (is_placed some) xs ≡ true → list_all (is_placed all) old ≡ true →
    new ≡ old ++ map (λ v. raised v k) (take n (drop a xs)) → list_all (is_placed all) new ≡ true
views_placed all some k old new xs a n behind placed before e =
    let part = take n (drop a xs) in
    let up = map (λ v. raised v k) part in
    ap (list_all (is_placed all)) e ∙ list_all-append (is_placed all) old up
    ∙ both (list_all (is_placed all) old) (list_all (is_placed all) up) before (all_raised all some k part behind (all_part (is_placed some) xs a n placed))

all_same : {A : Type 0} (p : A → Bool) (x : A) (n : ℕ) → p x ≡ true → list_all p (replicate n x) ≡ true
all_same p x zero e = refl
all_same p x (suc n) e = both (p x) (list_all p (replicate n x)) e (all_same p x n e)

pub nulls_placed : (p : View → Bool) (old new : List View) (x : View) (n : ℕ) → p x ≡ true → list_all p old ≡ true → new ≡ old ++ replicate n x → list_all p new ≡ true
nulls_placed p old new x n here before e = grind (arith, common_steps, both, all_same)

pub nulls_lengths : (old new : List View) (x : View) (bits longer : List Bool) (n : ℕ) → length bits ≡ length old → new ≡ old ++ replicate n x → longer ≡ bits ++ replicate n false → length longer ≡ length new
nulls_lengths old new x bits longer n long e g = grind (arith, common_steps, length-append, length-replicate)
