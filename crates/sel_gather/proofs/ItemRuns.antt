-- Runs of the child rows of lists.
use Rattle.sel_gather.proofs.Common.{common_steps, All-replicate, ◌≡◌, All, Bor, ℤ, pos, ℕ, ◌+◌, ◌≤◌, ◌<◌, List, [], ◌∷◌, ◌++◌, length, take, drop, map, replicate, Option}
use Rattle.sel_gather.proofs.Common.{Some, None, refl, ap, sym, subst, ◌∙◌, arith, get_or, length-append, append_assoc, length-map, take_more, take_all}
use Rattle.sel_gather.proofs.Common.{take-append-drop, map-append, append-nil, flat_map-append, All-append, rows, Value, Null, values_of, listed, Column, child}
use Rattle.sel_gather.proofs.Common.{items_in, joined_items, item_ends, pick, PickFits, expand, unrolled, Run}
use Rattle.sel_runs.proofs.RunLists.{pick_split, run_there, map_nulls, pick_more, run_at, length-pick}
use Rattle.sel_gather.proofs.{EndsBy.ends_by-append, EndsBy.list_ends, JoinedRows.run_length}

-- The rows of each source, and those of its child.
abbrev pub rows_of : List (Bor Column) → List (List Value)
rows_of cs = map (λ c. rows c.now) cs

abbrev pub below_of : List (Bor Column) → List (List Value)
below_of cs = map (λ c. rows (child c.now)) cs

pub listed_values : (vs : List Value) → listed (values_of vs) ≡ vs
listed_values [] = refl
listed_values (v ∷ vs) = ap (λ l. v ∷ l) (listed_values vs)

-- ---- the source of a run

pub source_there : (cs : List (Bor Column)) (r : Run) (s i : ℕ) → r.source ≡ Some s → All (PickFits (rows_of cs)) (unrolled r) → i < r.len → s < length cs
source_there cs r s i is fits h =
    let there = run_there (rows_of cs) r s is (λ e. absurd (omega (arith, h, e))) fits in
    omega (arith, there.0, length-map cs (λ c. rows c.now))

-- ---- the child rows of a null row

pub null_items : {A : Type 0} (d : A) (yss : List (List Value)) (w : ℕ) (row : Value) → row ≡ Null → pick Null yss (replicate w None) ≡ items_in w row
null_items d yss w row is = map_nulls Null yss w ∙ ap (items_in w) (sym is)

pub nulls_fit : (yss : List (List Value)) (w : ℕ) → All (PickFits yss) (replicate w None)
nulls_fit yss w = All-replicate (PickFits yss) w None tt

-- ---- the child rows of concatenated rows

pub joined-append : (w : ℕ) (a b : List Value) → joined_items w (a ++ b) ≡ joined_items w a ++ joined_items w b
joined-append w a b = flat_map-append (items_in w) a b

joined-one : (w : ℕ) (v : Value) → joined_items w (v ∷ []) ≡ items_in w v
joined-one w v = append-nil (items_in w v)

-- One more row.
pub joined_more : (w : ℕ) (rows : List Value) (i : ℕ) → i < length rows → joined_items w (take (i + 1) rows) ≡ joined_items w (take i rows) ++ items_in w (get_or rows i Null)
joined_more w rows i h = grind (arith, common_steps, take_more, joined-append, joined-one)

-- A prefix of the rows has at most as many child rows as all rows.
pub joined_prefix : (w : ℕ) (a b : List Value) → length (joined_items w a) ≤ length (joined_items w (a ++ b))
joined_prefix w a b = omega (arith, ap length (joined-append w a b), length-append (joined_items w a) (joined_items w b))

pub joined_part : (w : ℕ) (rows : List Value) (i : ℕ) → length (joined_items w (take i rows)) ≤ length (joined_items w rows)
joined_part w rows i =
    subst (λ l. length (joined_items w (take i rows)) ≤ length (joined_items w l)) (take-append-drop i rows) (joined_prefix w (take i rows) (drop i rows))

-- One more run.
pub joined_run : (w : ℕ) (xss : List (List Value)) (rs : List Run) (i : ℕ) → i < length rs →
    joined_items w (pick Null xss (expand (take (i + 1) rs))) ≡ joined_items w (pick Null xss (expand (take i rs))) ++ joined_items w (pick Null xss (unrolled (run_at rs i)))
joined_run w xss rs i h = ap (joined_items w) (pick_more Null xss rs i h) ∙ joined-append w (pick Null xss (expand (take i rs))) (pick Null xss (unrolled (run_at rs i)))

pub joined_runs : (w : ℕ) (xss : List (List Value)) (rs : List Run) (i : ℕ) → length (joined_items w (pick Null xss (expand (take i rs)))) ≤ length (joined_items w (pick Null xss (expand rs)))
joined_runs w xss rs i =
    let before = pick Null xss (expand (take i rs)) in
    subst (λ l. length (joined_items w before) ≤ length (joined_items w l)) (sym (pick_split Null xss rs i)) (joined_prefix w before (pick Null xss (expand (drop i rs))))

-- A run of the child rows of a list has their number as its length.
pub run_counts : (yss : List (List Value)) (r : Run) (items : List Value) → pick Null yss (unrolled r) ≡ items → r.len ≡ length items
run_counts yss r items e = sym (run_length Null yss r) ∙ ap length e

-- The rows of a run.
pub row_below : (xss : List (List Value)) (r : Run) (i : ℕ) → i < r.len → i < length (pick Null xss (unrolled r))
row_below xss r i h = omega (arith, run_length Null xss r, h)

-- The number of child rows after one more row.
pub counted_row : (w : ℕ) (yss xss : List (List Value)) (r one : Run) (i total : ℕ) → i < r.len → pick Null yss (unrolled one) ≡ items_in w (get_or (pick Null xss (unrolled r)) i Null) →
    total ≡ length (joined_items w (take i (pick Null xss (unrolled r)))) → total + one.len ≡ length (joined_items w (take (i + 1) (pick Null xss (unrolled r))))
counted_row w yss xss r one i total h e so_far =
    let rows = pick Null xss (unrolled r) in
    let more = ap length (joined_more w rows i (row_below xss r i h)) ∙ length-append (joined_items w (take i rows)) (items_in w (get_or rows i Null)) in
    omega (arith, more, so_far, run_counts yss one (items_in w (get_or rows i Null)) e)

-- All rows of a run.
pub all_rows : {A : Type 0} (f : List Value → A) (xss : List (List Value)) (r : Run) (i : ℕ) → r.len ≤ i → f (take i (pick Null xss (unrolled r))) ≡ f (pick Null xss (unrolled r))
all_rows f xss r i h = ap f (take_all i (pick Null xss (unrolled r)) (omega (arith, run_length Null xss r, h)))

-- The child rows after a run is appended.
pub pushed : (yss : List (List Value)) (old new : List Run) (r : Run) (before more : List Value) → expand new ≡ expand old ++ unrolled r → pick Null yss (expand old) ≡ before → pick Null yss (unrolled r) ≡ more →
    pick Null yss (expand new) ≡ before ++ more
pushed yss old new r before more e f g = grind (arith, common_steps, map-append)

pub pushed_fit : (yss : List (List Value)) (old new : List Run) (r : Run) → expand new ≡ expand old ++ unrolled r → All (PickFits yss) (expand old) → All (PickFits yss) (unrolled r) → All (PickFits yss) (expand new)
pushed_fit yss old new r e f g = subst (All (PickFits yss)) (sym e) (All-append (PickFits yss) (expand old) (unrolled r) f g)

-- The child rows of one more row are appended.
pub items_more : (w : ℕ) (yss xss : List (List Value)) (old so_far new : List Run) (r one : Run) (i : ℕ) → i < r.len → expand new ≡ expand so_far ++ unrolled one →
    pick Null yss (expand so_far) ≡ pick Null yss (expand old) ++ joined_items w (take i (pick Null xss (unrolled r))) → pick Null yss (unrolled one) ≡ items_in w (get_or (pick Null xss (unrolled r)) i Null) →
    pick Null yss (expand new) ≡ pick Null yss (expand old) ++ joined_items w (take (i + 1) (pick Null xss (unrolled r)))
items_more w yss xss old so_far new r one i h e f g =
    let rows = pick Null xss (unrolled r) in
    let there = pick Null yss (expand old) in
    pushed yss so_far new one (there ++ joined_items w (take i rows)) (items_in w (get_or rows i Null)) e f g
    ∙ append_assoc there (joined_items w (take i rows)) (items_in w (get_or rows i Null))
    ∙ ap (λ l. there ++ l) (sym (joined_more w rows i (row_below xss r i h)))

-- There is room for them.
pub items_room : (w : ℕ) (yss xss : List (List Value)) (old so_far : List Run) (r one : Run) (i n : ℕ) → i < r.len →
    pick Null yss (expand so_far) ≡ pick Null yss (expand old) ++ joined_items w (take i (pick Null xss (unrolled r))) → pick Null yss (unrolled one) ≡ items_in w (get_or (pick Null xss (unrolled r)) i Null) →
    length (expand old) + length (joined_items w (pick Null xss (unrolled r))) ≤ n → length (expand so_far) + one.len ≤ n
items_room w yss xss old so_far r one i n h f g room =
    let rows = pick Null xss (unrolled r) in
    let items = joined_items w (take i rows) in
    let counted = counted_row w yss xss r one i (length items) h g refl in
    let long = sym (length-pick Null yss (expand so_far)) ∙ ap length f ∙ length-append (pick Null yss (expand old)) items in
    omega (arith, counted, long, length-pick Null yss (expand old), joined_part w rows (i + 1), room)

-- The child rows of one more run are appended.
pub items_of_run : (w : ℕ) (yss xss : List (List Value)) (rs so_far new : List Run) (i : ℕ) → i < length rs →
    pick Null yss (expand so_far) ≡ joined_items w (pick Null xss (expand (take i rs))) → pick Null yss (expand new) ≡ pick Null yss (expand so_far) ++ joined_items w (pick Null xss (unrolled (run_at rs i))) →
    pick Null yss (expand new) ≡ joined_items w (pick Null xss (expand (take (i + 1) rs)))
items_of_run w yss xss rs so_far new i h f g = g ∙ ap (λ l. l ++ joined_items w (pick Null xss (unrolled (run_at rs i)))) f ∙ sym (joined_run w xss rs i h)

-- There is room for them.
pub run_items_room : (w : ℕ) (xss : List (List Value)) (rs : List Run) (i count n : ℕ) → i < length rs → count ≡ length (joined_items w (pick Null xss (expand (take i rs)))) →
    length (joined_items w (pick Null xss (expand rs))) ≤ n → count + length (joined_items w (pick Null xss (unrolled (run_at rs i)))) ≤ n
run_items_room w xss rs i count n h is room =
    let more = ap length (joined_run w xss rs i h) ∙ length-append (joined_items w (pick Null xss (expand (take i rs)))) (joined_items w (pick Null xss (unrolled (run_at rs i)))) in
    omega (arith, is, more, joined_runs w xss rs (i + 1), room)

pub all_runs : {A : Type 0} (f : List (Option (ℕ × ℕ)) → A) (rs : List Run) (i : ℕ) → length rs ≤ i → f (expand (take i rs)) ≡ f (expand rs)
all_runs f rs i h = ap (λ l. f (expand l)) (take_all i rs h)

-- ---- the ends of lists

pub ends-append : (start : ℕ) (a b : List Value) → item_ends start (a ++ b) ≡ item_ends start a ++ item_ends (start + length (joined_items 0 a)) b
ends-append start a b = rw (list_ends, list_ends, list_ends) (ends_by-append (items_in 0) start a b)

-- The end of one more row.
pub ends_more : (xss : List (List Value)) (r : Run) (i start end : ℕ) (old so_far new : List ℤ) (last : ℤ) → i < r.len →
    end ≡ start + length (joined_items 0 (take (i + 1) (pick Null xss (unrolled r)))) → last ≡ pos end →
    so_far ≡ old ++ map pos (item_ends start (take i (pick Null xss (unrolled r)))) → new ≡ so_far ++ last ∷ [] →
    new ≡ old ++ map pos (item_ends start (take (i + 1) (pick Null xss (unrolled r))))
ends_more xss r i start end old so_far new last h is shown e f =
    let rows = pick Null xss (unrolled r) in
    let below = row_below xss r i h in
    let more = ap length (joined_more 0 rows i below) ∙ length-append (joined_items 0 (take i rows)) (items_in 0 (get_or rows i Null)) in
    let there : end ≡ (start + length (joined_items 0 (take i rows))) + length (items_in 0 (get_or rows i Null)) = omega (arith, is, more) in
    let split = ap (item_ends start) (take_more rows i Null below) ∙ ends-append start (take i rows) (get_or rows i Null ∷ []) in
    f ∙ ap (λ l. l ++ last ∷ []) e ∙ append_assoc old (map pos (item_ends start (take i rows))) (last ∷ [])
    ∙ ap (λ x. old ++ (map pos (item_ends start (take i rows)) ++ x ∷ [])) (shown ∙ ap pos there)
    ∙ ap (λ l. old ++ l) (sym (map-append pos (item_ends start (take i rows)) (((start + length (joined_items 0 (take i rows))) + length (items_in 0 (get_or rows i Null))) ∷ [])))
    ∙ ap (λ l. old ++ map pos l) (sym split)
