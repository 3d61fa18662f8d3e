-- Horizontal flatten: the entries of each row, and the iteration over its row references.
use Rattle.sel_kernels.proofs.Common.{common_steps, ◌≡◌, ◌⊎◌, inl, inr, ℕ, zero, suc, ◌+◌, ◌*◌, ◌<◌, ◌≤◌, Bool, true, false, ◌&&◌, ◌||◌, ◌==◌, nat_lt, All}
use Rattle.sel_kernels.proofs.Common.{Bor, List, [], ◌∷◌, ◌++◌, length, take, drop, map, refl, sym, ap, subst, ◌∙◌, arith, get_or, drop-cons, length-append}
use Rattle.sel_kernels.proofs.Common.{zero-add, add-one, range_with_len, if◌then◌else◌, ltb-true, eqb-true, eq-eqb, flat_map-append, append-nil, take_all}
use Rattle.sel_kernels.proofs.Common.{length-map, get_or-map, All-map, map-map, mul-le, rows, type_of, ArrayRef, Column, first_type, and_first, and_second}
use Rattle.sel_kernels.proofs.Common.{length-part, flatten, flat_row, row_part, part_fits, parts_fit, row_width, true≢false, flat_map, ◌-◌, append_assoc}
use Rattle.sel_kernels.proofs.Common.{Some, None, Option, drop_all, map-append, All-append, All-cons, All-nil, get_or-map-range_with_len}
use Rattle.sel_kernels.proofs.Common.{length-map-range_with_len, max_rows, Value, Null, length-rows, few_rows, found, pick, PickFits, picks_of, lane_of}
use Rattle.sel_kernels.proofs.Common.{lanes_of, rows_picks, length-unrolled_from, HasLeft}
use Rattle.sel_arrow.specs.Rows.{IsWellFormed}
use Rattle.std.proofs.lemmas.{Bool.false_from_ne_true, List.drop_more}
use Rattle.sel_runs.proofs.RunLists.{length-pick, All-left, All-right, below_length, pick_rows}
use Rattle.sel_kernels.specs.{Lanes.left_picks, Lanes.row_picks, Lanes.picks_from, Lanes.IsReference, declared.lanes.Lane.Lane}
use Rattle.sel_kernels.proofs.Selects.{first_dropped, rest_dropped}

-- ---- lists that fit their widths

-- There is a width for each list.
pub widths_long : {A : Type 0} (h : ℕ) (xss : List (List A)) (ws : List ℕ) → parts_fit h xss ws ≡ true → length xss ≡ length ws
widths_long h [] [] fit = refl
widths_long h (xs ∷ xss) (w ∷ ws) fit = grind (arith, common_steps, and_second, (widths_long h xss ws (and_second (part_fits h (length xs) w) (parts_fit h xss ws) fit)))
widths_long h xss ws fit = absurd cc

-- There are w entries for each of h rows, or for a single row, and w is not 0.
abbrev pub Parts : ℕ → ℕ → ℕ → Type 0
Parts h n w = (0 < w) × ((n ≡ w * h) ⊎ (n ≡ w))

either : (a b : Bool) (P Q : Type 0) → (a ≡ true → P) → (b ≡ true → Q) → (a || b) ≡ true → P ⊎ Q
either true b P Q p q h = inl (p refl)
either false b P Q p q h = inr (q h)

pub part_at : {A : Type 0} (h : ℕ) (xss : List (List A)) (ws : List ℕ) (s : ℕ) → parts_fit h xss ws ≡ true → s < length ws → Parts h (length (get_or xss s [])) (get_or ws s 0)
part_at h [] [] s fit inside = absurd (omega (arith, inside))
part_at h (xs ∷ xss) (w ∷ ws) zero fit inside = grind (arith, common_steps, and_first, ltb-true, nat_lt, either, eqb-true, and_second)
part_at h (xs ∷ xss) (w ∷ ws) (suc s) fit inside = grind (arith, common_steps, and_second, (part_at h xss ws s (and_second (part_fits h (length xs) w) (parts_fit h xss ws) fit) (omega (arith, inside))))
part_at h xss ws s fit inside = absurd cc

-- One list, and the others.
pub fit_from : {A : Type 0} (h : ℕ) (xss : List (List A)) (ws : List ℕ) (s : ℕ) → s < length xss → s < length ws →
    parts_fit h (drop s xss) (drop s ws) ≡ (part_fits h (length (get_or xss s [])) (get_or ws s 0) && parts_fit h (drop (s + 1) xss) (drop (s + 1) ws))
fit_from h xss ws s there here = rw (add-one, drop-cons xss s [] there, drop-cons ws s 0 here) refl

pub rows_at : (arrays : List ArrayRef) (s : ℕ) (a : ArrayRef) → s < length arrays → a ≡ get_or arrays s a → get_or (map (λ x. rows x.column) arrays) s [] ≡ rows a.column
rows_at arrays s a inside is = get_or-map (λ (x : ArrayRef). rows x.column) arrays s a [] inside ∙ ap (λ (x : ArrayRef). rows x.column) (sym is)

-- One column, and the others.
pub one_fits : (h : ℕ) (arrays : List ArrayRef) (ws : List ℕ) (s : ℕ) (a : ArrayRef) (n : ℕ) → length arrays ≡ length ws → s < length ws → a ≡ get_or arrays s a → n ≡ length (rows a.column) →
    parts_fit h (drop s (map (λ a. rows a.column) arrays)) (drop s ws) ≡ (part_fits h n (get_or ws s 0) && parts_fit h (drop (s + 1) (map (λ a. rows a.column) arrays)) (drop (s + 1) ws))
one_fits h arrays ws s a n paired inside is long =
    let there : s < length arrays = omega (arith, paired, inside) in
    rw (long, ← rows_at arrays s a there is) (fit_from h (map (λ (x : ArrayRef). rows x.column) arrays) ws s (rw length-map there) inside)

-- Lists do not fit if their number differs from that of the widths.
pub unpaired : {A : Type 0} (h : ℕ) (xss : List (List A)) (ws : List ℕ) → (length xss ≡ length ws → ⊥) → false ≡ parts_fit h xss ws
unpaired h xss ws other = sym (false_from_ne_true (parts_fit h xss ws) (λ fit. other (widths_long h xss ws fit)))

-- ---- widths

width_step : (ws : List ℕ) (s : ℕ) → s < length ws → row_width (take (suc s) ws) ≡ row_width (take s ws) + get_or ws s 0
width_step [] s inside = absurd (omega (arith, inside))
width_step (w ∷ ws) zero inside = omega arith
width_step (w ∷ ws) (suc s) inside = let e = width_step ws s (omega (arith, inside)) in omega (arith, e)

pub width_more : (ws : List ℕ) (s : ℕ) → s < length ws → row_width (take (s + 1) ws) ≡ row_width (take s ws) + get_or ws s 0
width_more ws s inside = rw add-one (width_step ws s inside)

pub width_room : (ws : List ℕ) (s : ℕ) → s < length ws → row_width (take s ws) + get_or ws s 0 ≤ row_width ws
width_room [] s inside = absurd (omega (arith, inside))
width_room (w ∷ ws) zero inside = omega arith
width_room (w ∷ ws) (suc s) inside = let e = width_room ws s (omega (arith, inside)) in omega (arith, e)

-- There are no more widths than entries in a row.
pub width_count : {A : Type 0} (h : ℕ) (xss : List (List A)) (ws : List ℕ) → parts_fit h xss ws ≡ true → length ws ≤ row_width ws
width_count h [] [] fit = omega arith
width_count h (xs ∷ xss) (w ∷ ws) fit = grind (arith, common_steps, part_at, and_second, (width_count h xss ws (and_second (part_fits h (length xs) w) (parts_fit h xss ws) fit)))
width_count h xss ws fit = absurd cc

-- ---- all rows

range_more : (a n : ℕ) → range_with_len a (suc n) ≡ range_with_len a n ++ (a + n) ∷ []
range_more a zero = let e : a ≡ a + 0 = omega arith in ap (λ k. k ∷ []) e
range_more a (suc n) = let e : (a + 1) + n ≡ a + suc n = omega arith in ap (λ l. a ∷ l) (range_more (a + 1) n ∙ ap (λ k. range_with_len (a + 1) n ++ k ∷ []) e)

pub flatten_more : {A : Type 0} (xss : List (List A)) (ws : List ℕ) (r : ℕ) → flatten xss ws (r + 1) ≡ flatten xss ws r ++ flat_row r xss ws
flatten_more xss ws r =
    let rows : ℕ → List _ = λ i. flat_row i xss ws in
    ap (flatten xss ws) (add-one r)
    ∙ ap (flat_map rows) (range_more 0 r ∙ ap (λ k. range_with_len 0 r ++ k ∷ []) (zero-add r))
    ∙ flat_map-append rows (range_with_len 0 r) (r ∷ [])
    ∙ ap (λ l. flatten xss ws r ++ l) (append-nil (flat_row r xss ws))

-- ---- the length of rows

-- The entries of a row are in bounds of a list that has w of them for each row.
pub row_inside : (r h n w : ℕ) → r < h → n ≡ w * h → r * w + w ≤ n
row_inside r h n w inside long = omega (arith, long, mul-le (r + 1) w h w (omega (arith, inside)) (omega arith))

-- A list that is not as long as its width has w entries for each row.
pub many_of : (h n w : ℕ) → ((n ≡ w * h) ⊎ (n ≡ w)) → (n == w) ≡ false → n ≡ w * h
many_of h n w (inl e) other = e
many_of h n w (inr e) other = absurd (true≢false (sym (eq-eqb n w e) ∙ other))

pub part_length : {A : Type 0} (r h : ℕ) (xs : List A) (w : ℕ) → r < h → Parts h (length xs) w → length (row_part r xs w) ≡ w
part_length r h xs w inside fit = by_length (length xs == w) refl
  where
    by_length : (b : Bool) → (length xs == w) ≡ b → length (if b then xs else take w (drop (r * w) xs)) ≡ w
    by_length true e = eqb-true (length xs) w e
    by_length false e = length-part xs (r * w) w (row_inside r h (length xs) w inside (many_of h (length xs) w fit.1 e))

pub row_length : {A : Type 0} (r h : ℕ) (xss : List (List A)) (ws : List ℕ) → r < h → parts_fit h xss ws ≡ true → length (flat_row r xss ws) ≡ row_width ws
row_length r h [] [] inside fit = refl
row_length r h (xs ∷ xss) (w ∷ ws) inside fit =
    let one = part_length r h xs w inside (part_at h (xs ∷ xss) (w ∷ ws) 0 fit (omega arith)) in
    let more = row_length r h xss ws inside (and_second (part_fits h (length xs) w) (parts_fit h xss ws) fit) in
    let both = length-append (row_part r xs w) (flat_row r xss ws) in
    omega (arith, one, more, both)
row_length r h xss ws inside fit = absurd cc

pub flat_length : {A : Type 0} (h n : ℕ) (xss : List (List A)) (ws : List ℕ) → n ≤ h → parts_fit h xss ws ≡ true → length (flatten xss ws n) ≡ n * row_width ws
flat_length h zero xss ws inside fit = let none : 0 ≡ 0 * row_width ws = omega arith in none
flat_length h (suc n) xss ws inside fit =
    let rest = flat_length h n xss ws (omega (arith, inside)) fit in
    let one = row_length n h xss ws (omega (arith, inside)) fit in
    let both = ap length (ap (flatten xss ws) (sym (add-one n)) ∙ flatten_more xss ws n) ∙ length-append (flatten xss ws n) (flat_row n xss ws) in
    omega (arith, rest, one, both)

-- ---- the runs of a row

-- The start of a run, and its entries.
pub start_at : {A : Type 0} (r : ℕ) (xs : List A) (w : ℕ) (start : ℕ) (b : Bool) → (length xs == w) ≡ b → start ≡ (if b then 0 else r * w) → take w (drop start xs) ≡ row_part r xs w
start_at r xs w start true e is = rw (e, is) (take_all w xs (let long = eqb-true (length xs) w e in omega (arith, long)))
start_at r xs w start false e is = rw (e, is) refl

-- ---- columns as the sources of rows

-- The requirements for the sources of a gather.
pub record AsSources (cs : List (Bor Column)) (arrays : List ArrayRef) : Type 0 where
  pub some : 0 < length cs
  pub alike : All (λ c. type_of c.now ≡ first_type (map (λ x. x.now) cs)) cs
  pub formed : All (λ c. IsWellFormed c.now) cs
  pub rows : map (λ c. rows c.now) cs ≡ map (λ a. rows a.column) arrays

-- What holds for the column of each array holds for each column.
all_found : (P : Column → Type 0) (cs : List (Bor Column)) (arrays : List ArrayRef) → map (λ c. c.now) cs ≡ map (λ a. a.column) arrays → All (λ a. P a.column) arrays → All (λ c. P c.now) cs
all_found P cs arrays same all k d below =
    let columns = subst (All P) (sym same) (All-map P (λ (a : ArrayRef). a.column) arrays all) in
    let there : k < length (map (λ (c : Bor Column). c.now) cs) = rw length-map below in
    subst P (get_or-map (λ (c : Bor Column). c.now) cs k d d.now below) (columns k d.now there)

pub as_sources : (cs : List (Bor Column)) (arrays : List ArrayRef) → map (λ c. c.now) cs ≡ map (λ a. a.column) arrays → 0 < length arrays →
    All (λ a. type_of a.column ≡ first_type (map (λ x. x.column) arrays)) arrays → AsSources cs arrays
as_sources cs arrays same some alike = record {
  some = (let long = sym (length-map cs (λ (c : Bor Column). c.now)) ∙ ap length same ∙ length-map arrays (λ (a : ArrayRef). a.column) in omega (arith, long, some));
  alike = (λ k d below. all_found (λ x. type_of x ≡ first_type (map (λ a. a.column) arrays)) cs arrays same alike k d below ∙ ap first_type (sym same));
  formed = all_found IsWellFormed cs arrays same (λ k d below. (get_or arrays k d).formed);
  rows = sym (map-map rows (λ (c : Bor Column). c.now) cs) ∙ ap (map rows) same ∙ map-map rows (λ (a : ArrayRef). a.column) arrays;
}

-- ---- the iteration

-- All rows of the part of a lane, and the row references after it.
pub lane_start : (j r n : ℕ) (lane d : Lane) (lanes : List Lane) → j < length lanes → lane ≡ get_or lanes j d →
    left_picks j (r * lane.step) lane.width r n lanes ≡ picks_from j r n lanes
lane_start j r n lane d lanes inside is = rw (drop_more lanes j d inside, ← is, append_assoc)

-- A row and those after it, which are k.
pub row_start : (r k n : ℕ) (lanes : List Lane) → 0 < k → n ≡ r + k → picks_from 0 r n lanes ≡ rows_picks r k lanes
row_start r zero n lanes some is = absurd (omega (arith, some))
row_start r (suc k) n lanes some is = grind (arith, common_steps)

pub rows_some : (r k : ℕ) (lanes : List Lane) → 0 < length (rows_picks r k lanes) → (0 < k) × (0 < length lanes)
rows_some r zero lanes h = absurd (omega (arith, h))
rows_some r (suc k) [] h = (omega arith, (rows_some (r + 1) k [] h).1)
rows_some r (suc k) (lane ∷ lanes) h = (omega arith, omega arith)

-- If row references are left after the last lane, they begin with the next row.
pub row_after : (j r n : ℕ) (lanes : List Lane) → length lanes ≤ j → 0 < length (picks_from j r n lanes) →
    (r + 1 < n) × (0 < length lanes) × (picks_from 0 (r + 1) n lanes ≡ picks_from j r n lanes)
row_after j r n lanes done some =
    let k = n - (r + 1) in
    let rest : picks_from j r n lanes ≡ rows_picks (r + 1) k lanes = ap (λ l. row_picks r j l ++ rows_picks (r + 1) k lanes) (drop_all j lanes done) in
    let there = rows_some (r + 1) k lanes (omega (arith, some, ap length rest)) in
    let below : 0 < k = there.0 in
    (omega (arith, below), there.1, row_start (r + 1) k n lanes below (omega (arith, below)) ∙ sym rest)

-- At first, the part of the first lane begins.
pub first_part : (n : ℕ) (lane d : Lane) (lanes : List Lane) → lane ≡ get_or lanes 0 d → 0 < length (rows_picks 0 n lanes) → left_picks 0 0 lane.width 0 n lanes ≡ rows_picks 0 n lanes
first_part n lane d lanes is some =
    let there = rows_some 0 n lanes some in
    let start : 0 ≡ 0 * lane.step = omega arith in
    ap (λ at. left_picks 0 at lane.width 0 n lanes) start ∙ lane_start 0 0 n lane d lanes there.1 is ∙ row_start 0 n n lanes there.0 (omega arith)

-- After a part, the next lane.
pub part_done : (j at part r n : ℕ) (lanes : List Lane) → part ≡ 0 → left_picks j at part r n lanes ≡ picks_from (j + 1) r n lanes
part_done j at part r n lanes done = ap (λ k. picks_of j at k ++ picks_from (j + 1) r n lanes) done

-- ---- what is left

part_near : (s a n : ℕ) → 0 < n → All IsReference (picks_of s a n) → (s < max_rows) × (a + n ≤ max_rows)
part_near s a n some all =
    let f : ℕ → Option (ℕ × ℕ) = λ i. Some (s, i) in
    let last = all (n - 1) None (rw (length-map-range_with_len f a n) (omega arith)) in
    let there : IsReference (Some (s, a + (n - 1))) = subst IsReference (get_or-map-range_with_len f a n (n - 1) (a + (n - 1)) None (omega arith) refl) last in
    let near = there.1 (s, a + (n - 1)) refl in
    (near.0, omega (arith, near.1))

-- The rows of a part that is not empty are in range.
pub left_inside : (lanes : List Lane) (left j at part r n : ℕ) → 0 < part → HasLeft lanes left (left_picks j at part r n lanes) → (j < max_rows) × (at + part ≤ max_rows)
left_inside lanes left j at part r n some has =
    part_near j at part some (All-left IsReference (picks_of j at part) (picks_from (j + 1) r n lanes) has.references)

-- The next lane has rows, which are in range.
pub lane_inside : (lanes : List Lane) (left j r n : ℕ) (lane d : Lane) → j < length lanes → lane ≡ get_or lanes j d → HasLeft lanes left (picks_from j r n lanes) →
    (0 < lane.width) × (j < max_rows) × (r * lane.step + lane.width ≤ max_rows)
lane_inside lanes left j r n lane d inside is has =
    let some : 0 < lane.width = subst (λ (l : Lane). 0 < l.width) (sym is) (has.wide j d inside) in
    let here = left_inside lanes left j (r * lane.step) lane.width r n some (subst (HasLeft lanes left) (sym (lane_start j r n lane d lanes inside is)) has) in
    (some, here.0, here.1)

-- The row references after the first m.
left_after : (lanes : List Lane) (left m : ℕ) (ps qs : List (Option (ℕ × ℕ))) → m ≡ length ps → HasLeft lanes left (ps ++ qs) → (m ≤ left) × HasLeft lanes (left - m) qs
left_after lanes left m ps qs many has =
    let sum = length-append ps qs in (
      omega (arith, has.counted, sum, many),
      record { wide = has.wide; references = All-right IsReference ps qs has.references; counted = omega (arith, has.counted, sum, many) },
    )

-- After the run of a part.
pub part_after : (lanes : List Lane) (left j at part r n : ℕ) → HasLeft lanes left (left_picks j at part r n lanes) → (part ≤ left) × HasLeft lanes (left - part) (picks_from (j + 1) r n lanes)
part_after lanes left j at part r n has =
    left_after lanes left part (picks_of j at part) (picks_from (j + 1) r n lanes) (sym (length-unrolled_from (Some j) at part)) has

-- The first row reference of a part, and after it.
pub pick_first : (lanes : List Lane) (j at part r n : ℕ) → 0 < part → left_picks j at part r n lanes ≡ Some (j, at) ∷ left_picks j (at + 1) (part - 1) r n lanes
pick_first lanes j at zero r n some = absurd (omega (arith, some))
pick_first lanes j at (suc part) r n some = grind (arith, common_steps)

pub pick_after : (lanes : List Lane) (left j at part r n : ℕ) → 0 < part → HasLeft lanes left (left_picks j at part r n lanes) → HasLeft lanes (left - 1) (left_picks j (at + 1) (part - 1) r n lanes)
pick_after lanes left j at part r n some has =
    (left_after lanes left 1 (Some (j, at) ∷ []) (left_picks j (at + 1) (part - 1) r n lanes) refl (subst (HasLeft lanes left) (pick_first lanes j at part r n some) has)).1

reference : (s i : ℕ) → s < max_rows → i < max_rows → IsReference (Some (s, i))
reference s i source row = (refl, λ p is. let same : (s, i) ≡ p = cc in subst (λ (q : ℕ × ℕ). (q.0 < max_rows) × (q.1 < max_rows)) same (source, row))

-- ---- lanes

lanes_step : {A : Type 0} (xss : List (List A)) (ws : List ℕ) (s : ℕ) → length xss ≡ length ws → s < length ws →
    lanes_of (take (suc s) xss) (take (suc s) ws) ≡ lanes_of (take s xss) (take s ws) ++ lane_of (length (get_or xss s [])) (get_or ws s 0) ∷ []
lanes_step [] ws s long inside = absurd (omega (arith, long, inside))
lanes_step (xs ∷ xss) [] s long inside = absurd (omega (arith, long))
lanes_step (xs ∷ xss) (w ∷ ws) zero long inside = refl
lanes_step (xs ∷ xss) (w ∷ ws) (suc s) long inside = ap (λ l. lane_of (length xs) w ∷ l) (lanes_step xss ws s (omega (arith, long)) (omega (arith, inside)))

-- One more lane.
pub lanes_more : {A : Type 0} (xss : List (List A)) (ws : List ℕ) (s : ℕ) → length xss ≡ length ws → s < length ws →
    lanes_of (take (s + 1) xss) (take (s + 1) ws) ≡ lanes_of (take s xss) (take s ws) ++ lane_of (length (get_or xss s [])) (get_or ws s 0) ∷ []
lanes_more xss ws s long inside = ap (λ k. lanes_of (take k xss) (take k ws)) (add-one s) ∙ lanes_step xss ws s long inside

wide_lanes : {A : Type 0} (h : ℕ) (xss : List (List A)) (ws : List ℕ) → parts_fit h xss ws ≡ true → All (λ lane. 0 < lane.width) (lanes_of xss ws)
wide_lanes h [] ws fit = All-nil _
wide_lanes h (xs ∷ xss) [] fit = absurd cc
wide_lanes h (xs ∷ xss) (w ∷ ws) fit = grind (arith, common_steps, All-cons, part_at, and_second, (wide_lanes h xss ws (and_second (part_fits h (length xs) w) (parts_fit h xss ws) fit)))

-- ---- the rows that the row references refer to

start_is : (b : Bool) (r w : ℕ) → r * (if b then 0 else w) ≡ (if b then 0 else r * w)
start_is true r w = let none : r * 0 ≡ 0 = omega arith in none
start_is false r w = refl

part_inside : {A : Type 0} (b : Bool) (r h : ℕ) (xs : List A) (w : ℕ) → (length xs == w) ≡ b → r < h → Parts h (length xs) w → r * (if b then 0 else w) + w ≤ length xs
part_inside true r h xs w e inside fit = grind (arith, common_steps, eqb-true)
part_inside false r h xs w e inside fit = row_inside r h (length xs) w inside (many_of h (length xs) w fit.1 e)

picks_all : (P : Option (ℕ × ℕ) → Type 0) (s a n : ℕ) → ((k : ℕ) → k < n → P (Some (s, a + k))) → All P (picks_of s a n)
picks_all P s a n each k d below = grind (arith, common_steps, length-map-range_with_len, get_or-map-range_with_len)

module _ {A : Type 0} (d : A) (all : List (List A)) (r h : ℕ) (inside : r < h) where
  room : (s : ℕ) (xs : List A) (xss : List (List A)) (w : ℕ) (ws : List ℕ) → drop s all ≡ xs ∷ xss → parts_fit h (xs ∷ xss) (w ∷ ws) ≡ true →
      r * (if length xs == w then 0 else w) + w ≤ length (get_or all s [])
  room s xs xss w ws e fit = grind (arith, common_steps, part_inside, inside, part_at, first_dropped)

  row_woven : (s : ℕ) (xss : List (List A)) (ws : List ℕ) → drop s all ≡ xss → parts_fit h xss ws ≡ true → pick d all (row_picks r s (lanes_of xss ws)) ≡ flat_row r xss ws
  row_woven s (xs ∷ xss) (w ∷ ws) e fit =
      let start = r * (if length xs == w then 0 else w) in
      let part = pick_rows d all s start w (room s xs xss w ws e fit) ∙ ap (λ l. take w (drop start l)) (first_dropped all xs xss s [] e)
      ∙ start_at r xs w start (length xs == w) refl (start_is (length xs == w) r w) in
      let rest = row_woven (s + 1) xss ws (rest_dropped all xs xss s e) (and_second (part_fits h (length xs) w) (parts_fit h xss ws) fit) in
      map-append (found d all) (picks_of s start w) (row_picks r (s + 1) (lanes_of xss ws))
      ∙ ap (λ l. l ++ pick d all (row_picks r (s + 1) (lanes_of xss ws))) part ∙ ap (λ l. row_part r xs w ++ l) rest
  row_woven s xss ws e fit = refl

  row_all : (P : Option (ℕ × ℕ) → Type 0) → ((s i : ℕ) → i < length (get_or all s []) → P (Some (s, i))) →
      (s : ℕ) (xss : List (List A)) (ws : List ℕ) → drop s all ≡ xss → parts_fit h xss ws ≡ true → All P (row_picks r s (lanes_of xss ws))
  row_all P each s (xs ∷ xss) (w ∷ ws) e fit =
      let start = r * (if length xs == w then 0 else w) in
      All-append P (picks_of s start w) (row_picks r (s + 1) (lanes_of xss ws)) (picks_all P s start w (λ k below. each s (start + k) (omega (arith, below, room s xs xss w ws e fit))))
      (row_all P each (s + 1) xss ws (rest_dropped all xs xss s e) (and_second (part_fits h (length xs) w) (parts_fit h xss ws) fit))
  row_all P each s xss ws e fit = All-nil P

module _ {A : Type 0} (d : A) (xss : List (List A)) (ws : List ℕ) (h : ℕ) (fit : parts_fit h xss ws ≡ true) where
  rows_from : (r n : ℕ) → r + n ≤ h → pick d xss (rows_picks r n (lanes_of xss ws)) ≡ flat_map (λ i. flat_row i xss ws) (range_with_len r n)
  rows_from r zero inside = refl
  rows_from r (suc n) inside =
      map-append (found d xss) (row_picks r 0 (lanes_of xss ws)) (rows_picks (r + 1) n (lanes_of xss ws))
      ∙ ap (λ l. l ++ pick d xss (rows_picks (r + 1) n (lanes_of xss ws))) (row_woven d xss r h (omega (arith, inside)) 0 xss ws refl fit)
      ∙ ap (λ l. flat_row r xss ws ++ l) (rows_from (r + 1) n (omega (arith, inside)))

  -- The row references of all rows give the flattened columns.
  pub rows_woven : pick d xss (rows_picks 0 h (lanes_of xss ws)) ≡ flatten xss ws h
  rows_woven = rows_from 0 h (omega arith)

  rows_all : (P : Option (ℕ × ℕ) → Type 0) → ((s i : ℕ) → i < length (get_or xss s []) → P (Some (s, i))) → (r n : ℕ) → r + n ≤ h → All P (rows_picks r n (lanes_of xss ws))
  rows_all P each r zero inside = All-nil P
  rows_all P each r (suc n) inside =
      All-append P (row_picks r 0 (lanes_of xss ws)) (rows_picks (r + 1) n (lanes_of xss ws))
      (row_all d xss r h (omega (arith, inside)) P each 0 xss ws refl fit) (rows_all P each (r + 1) n (omega (arith, inside)))

  pub woven_fit : All (PickFits xss) (rows_picks 0 h (lanes_of xss ws))
  woven_fit = rows_all (PickFits xss) (λ s i below. below) 0 h (omega arith)

-- ---- arrays that are flattened

module _ (arrays : List ArrayRef) (ws : List ℕ) (h len : ℕ) (some : 0 < length arrays) (fit : parts_fit h (map (λ a. rows a.column) arrays) ws ≡ true) (high : 0 < h) (is : len ≡ h * row_width ws) (few : len ≤ max_rows) where
  abbrev columns : List (List Value)
  columns = map (λ (a : ArrayRef). rows a.column) arrays

  pub paired : length arrays ≡ length ws
  paired = sym (length-map arrays (λ (a : ArrayRef). rows a.column)) ∙ widths_long h columns ws fit

  pub sizes : (row_width ws ≤ max_rows) × (h ≤ max_rows) × (0 < len)
  sizes = grind (arith, common_steps, mul-le, some, paired, width_count)

  few_columns : length columns ≤ max_rows
  few_columns = omega (arith, length-map arrays (λ (a : ArrayRef). rows a.column), paired, width_count h columns ws fit, sizes.0)

  few_of_each : All (λ xs. length xs ≤ max_rows) columns
  few_of_each =
      All-map (λ xs. length xs ≤ max_rows) (λ (a : ArrayRef). rows a.column) arrays
      (λ k d below. omega (arith, few_rows (get_or arrays k d).column (get_or arrays k d).formed, length-rows (get_or arrays k d).column))

  -- The row references that are left at first.
  pub first_left : HasLeft (lanes_of columns ws) len (rows_picks 0 h (lanes_of columns ws))
  first_left = record {
    wide = wide_lanes h columns ws fit;
    references = rows_all Null columns ws h fit IsReference
        (λ s i below. let there = below_length columns s i below in reference s i (omega (arith, there, few_columns)) (omega (arith, below, few_of_each s [] there))) 0 h (omega arith);
    counted = omega (arith, ap length (rows_woven Null columns ws h fit) ∙ flat_length h h columns ws (omega arith) fit, length-pick Null columns (rows_picks 0 h (lanes_of columns ws)), is);
  }

pub ruleset columns_found = (map-append, take_all, map-map)

pub ruleset lanes_made = (lanes_more, rows_at, length-map, take_all)
