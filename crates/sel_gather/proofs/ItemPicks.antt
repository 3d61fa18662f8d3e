-- Row references to the items of lists.
use Rattle.sel_gather.proofs.Common.{common_steps, ◌≡◌, ◌≢◌, All, Bor, ℤ, pos, ℕ, ◌+◌, ◌^◌, ◌≤◌, ◌<◌, true, List, [], ◌∷◌, ◌++◌, length, take, drop}
use Rattle.sel_gather.proofs.Common.{map, Option, Some, None, refl, ap, sym, subst, ◌∙◌, arith, get_or, append-nil, get_or-map, length-map, map-append}
use Rattle.sel_gather.proofs.Common.{get_or-replicate, get_or-map-range_with_len, All-append, All-head, All-nil, All-tail, IsValidityOf, rows, type_of}
use Rattle.sel_gather.proofs.Common.{IsWellFormed, Shape, of_null, Value, Null, is_valid, Column, child, is_listing, items_in, joined_items, item_ends, part_of}
use Rattle.sel_gather.proofs.Common.{part_picks, item_picks, items_at, IsRow, found, pick, PickFits, IsNear, IsPicked, unrolled, Run, All-get_or, unrolled_from}
use Rattle.sel_runs.proofs.Gathers.{next_all, next_below, next_is, pick_next}
use Rattle.sel_gather.proofs.ItemRuns.{rows_of, below_of, listed_values, null_items, nulls_fit}
use Rattle.sel_runs.proofs.RunLists.{below_length, length-pick, length-unrolled, none_unrolled, pick_rows, picked_rows}
use Rattle.sel_gather.proofs.Walks.{told_row, counts_behind, ends_behind, joined_first}
use Rattle.sel_gather.proofs.{ListParts.few_below, ListParts.IsPart, ListParts.part_is, EachRow.source_all, Fits.rows_fit}
use Rattle.sel_runs.proofs.PlanRuns.{first_of}

-- ---- the items of the list that a row reference refers to

abbrev pub HasItems : List (Bor Column) → ℕ → Value → List (Option (ℕ × ℕ)) → Type 0
HasItems cs w row ps = (pick Null (below_of cs) ps ≡ items_in w row) × All (PickFits (below_of cs)) ps

module _ (x : Bor Column) (cs : List (Bor Column)) (w : ℕ) (p : ℕ × ℕ) (listing : All (λ c. is_listing (type_of c.now) ≡ true) (x ∷ cs)) (formed : All (λ c. IsWellFormed c.now) (x ∷ cs)) (fits : PickFits (rows_of (x ∷ cs)) (Some p)) where
  abbrev c : Bor Column
  c = get_or (x ∷ cs) p.0 x

  abbrev row : Value
  row = found Null (rows_of (x ∷ cs)) (Some p)

  there : p.0 < length (x ∷ cs)
  there = omega (arith, below_length (rows_of (x ∷ cs)) p.0 p.1 fits, length-map (x ∷ cs) (λ (y : Bor Column). rows y.now))

  rows_at : get_or (rows_of (x ∷ cs)) p.0 [] ≡ rows c.now
  rows_at = get_or-map (λ (y : Bor Column). rows y.now) (x ∷ cs) p.0 x [] there

  below_at : get_or (below_of (x ∷ cs)) p.0 [] ≡ rows (child c.now)
  below_at = get_or-map (λ (y : Bor Column). rows (child y.now)) (x ∷ cs) p.0 x [] there

  parts_at : get_or (map (λ (y : Bor Column). part_of y.now) (x ∷ cs)) p.0 (λ i. None) ≡ part_of c.now
  parts_at = get_or-map (λ (y : Bor Column). part_of y.now) (x ∷ cs) p.0 x (λ i. None) there

  part : IsPart c.now p.1 (part_of c.now p.1)
  part = part_is c.now p.1 (listing p.0 x there) (formed p.0 x there) (omega (arith, fits, ap length rows_at))

  row_is : row ≡ get_or (rows c.now) p.1 Null
  row_is = ap (λ l. get_or l p.1 Null) rows_at

  one : (o : Option (ℕ × ℕ)) → IsPart c.now p.1 o → HasItems (x ∷ cs) w row (part_picks w p.0 o)
  one None is = (null_items Null (below_of (x ∷ cs)) w row (row_is ∙ is), nulls_fit (below_of (x ∷ cs)) w)
  one (Some q) is =
      let room : q.0 + q.1 ≤ length (get_or (below_of (x ∷ cs)) p.0 []) = omega (arith, is.1, ap length below_at) in
      let items = take q.1 (drop q.0 (rows (child c.now))) in (
        pick_rows Null (below_of (x ∷ cs)) p.0 q.0 q.1 room ∙ ap (λ l. take q.1 (drop q.0 l)) below_at ∙ sym (listed_values items) ∙ ap (items_in w) (sym (row_is ∙ is.0)),
        rows_fit (below_of (x ∷ cs)) p.0 q.0 q.1 room,
      )

  found_items : HasItems (x ∷ cs) w row (item_picks (x ∷ cs) w (Some p))
  found_items = subst (λ (g : ℕ → Option (ℕ × ℕ)). HasItems (x ∷ cs) w row (part_picks w p.0 (g p.1))) (sym parts_at) (one (part_of c.now p.1) part)

has_items : (cs : List (Bor Column)) (w : ℕ) (p : Option (ℕ × ℕ)) → All (λ c. is_listing (type_of c.now) ≡ true) cs → All (λ c. IsWellFormed c.now) cs → PickFits (rows_of cs) p →
    HasItems cs w (found Null (rows_of cs) p) (item_picks cs w p)
has_items cs w None listing formed fits = (null_items Null (below_of cs) w Null refl, nulls_fit (below_of cs) w)
has_items [] w (Some p) listing formed fits = absurd (omega (arith, fits))
has_items (x ∷ cs) w (Some p) listing formed fits = found_items x cs w p listing formed fits

-- ---- the items of all lists

module _ (cs : List (Bor Column)) (listing : All (λ c. is_listing (type_of c.now) ≡ true) cs) (formed : All (λ c. IsWellFormed c.now) cs) (w : ℕ) where
  pub items_picked : (ps : List (Option (ℕ × ℕ))) → All (PickFits (rows_of cs)) ps → pick Null (below_of cs) (items_at cs w ps) ≡ joined_items w (pick Null (rows_of cs) ps)
  items_picked [] fits = refl
  items_picked (p ∷ ps) fits =
      map-append (found Null (below_of cs)) (item_picks cs w p) (items_at cs w ps)
      ∙ ap (λ l. l ++ pick Null (below_of cs) (items_at cs w ps)) (has_items cs w p listing formed (All-head (PickFits (rows_of cs)) p ps fits)).0
      ∙ ap (λ l. items_in w (found Null (rows_of cs) p) ++ l) (items_picked ps (All-tail (PickFits (rows_of cs)) p ps fits))

  pub items_fit : (ps : List (Option (ℕ × ℕ))) → All (PickFits (rows_of cs)) ps → All (PickFits (below_of cs)) (items_at cs w ps)
  items_fit [] fits = All-nil (PickFits (below_of cs))
  items_fit (p ∷ ps) fits =
      All-append (PickFits (below_of cs)) (item_picks cs w p) (items_at cs w ps) (has_items cs w p listing formed (All-head (PickFits (rows_of cs)) p ps fits)).1
      (items_fit ps (All-tail (PickFits (rows_of cs)) p ps fits))

  pub items_long : (ps : List (Option (ℕ × ℕ))) → All (PickFits (rows_of cs)) ps → length (items_at cs w ps) ≡ length (joined_items w (pick Null (rows_of cs) ps))
  items_long ps fits = sym (length-pick Null (below_of cs) (items_at cs w ps)) ∙ ap length (items_picked ps fits)

  pub list_long : (p : Option (ℕ × ℕ)) → PickFits (rows_of cs) p → length (item_picks cs w p) ≡ length (items_in w (found Null (rows_of cs) p))
  list_long p fits = sym (length-pick Null (below_of cs) (item_picks cs w p)) ∙ ap length (has_items cs w p listing formed fits).0

-- The items of row i of a run.
module _ (cs : List (Bor Column)) (listing : All (λ c. is_listing (type_of c.now) ≡ true) cs) (formed : All (λ c. IsWellFormed c.now) cs) (r : Run) (i : ℕ) (below : i < r.len) (fits : All (PickFits (rows_of cs)) (unrolled r)) where
  inside : i < length (unrolled r)
  inside = omega (arith, below, length-unrolled r)

  pick_at : get_or (unrolled r) i None ≡ first_of r.source (r.start + i)
  pick_at = by r.source
    where
      by : (o : Option ℕ) → get_or (unrolled_from o r.start r.len) i None ≡ first_of o (r.start + i)
      by None = get_or-replicate r.len i None None below
      by (Some s) = get_or-map-range_with_len (λ i. Some (s, i)) r.start r.len i (r.start + i) None below refl

  row_pick_fits : PickFits (rows_of cs) (first_of r.source (r.start + i))
  row_pick_fits = subst (PickFits (rows_of cs)) pick_at (All-get_or (PickFits (rows_of cs)) (unrolled r) i None inside fits)

  pub row_inside : (s : ℕ) → r.source ≡ Some s → r.start + i < length (get_or (rows_of cs) s [])
  row_inside s is = subst (λ o. PickFits (rows_of cs) (first_of o (r.start + i))) is row_pick_fits

  pub row_items : (w : ℕ) (list : Run) → unrolled list ≡ item_picks cs w (first_of r.source (r.start + i)) → HasItems cs w (get_or (pick Null (rows_of cs) (unrolled r)) i Null) (unrolled list)
  row_items w list is = grind (arith, common_steps, get_or-map, inside, pick_at, has_items, formed, row_pick_fits)

near_child : (cs : List (Bor Column)) (s i : ℕ) → All (λ c. is_listing (type_of c.now) ≡ true) cs → All (λ c. IsWellFormed c.now) cs → i < length (get_or (below_of cs) s []) → i < 2 ^ 32
near_child cs s i listing formed h =
    source_all (λ vs. (i : ℕ) → i < length vs → i < 2 ^ 32) (λ i h. absurd (omega (arith, h))) (λ (c : Bor Column). rows (child c.now)) cs
    (λ k d below i h. omega (arith, h, few_below (get_or cs k d).now (listing k d below) (formed k d below))) s i h

-- The positions of items are less than 2^32.
pub items_near : (cs : List (Bor Column)) → All (λ c. is_listing (type_of c.now) ≡ true) cs → All (λ c. IsWellFormed c.now) cs → (qs : List (Option (ℕ × ℕ))) → All (PickFits (below_of cs)) qs → All IsNear qs
items_near cs listing formed qs fits k d h p is = near_child cs p.0 p.1 listing formed (subst (PickFits (below_of cs)) is (fits k d h))

-- ---- no item is null

part_picked : (s : ℕ) (o : Option (ℕ × ℕ)) → All IsPicked (part_picks 0 s o)
part_picked s None = All-nil IsPicked
part_picked s (Some part) = picked_rows s part.0 part.1

list_picked : (cs : List (Bor Column)) (p : Option (ℕ × ℕ)) → All IsPicked (item_picks cs 0 p)
list_picked cs None = All-nil IsPicked
list_picked cs (Some p) = part_picked p.0 (get_or (map (λ (c : Bor Column). part_of c.now) cs) p.0 (λ i. None) p.1)

-- A null list has no items.
pub items_picked_all : (cs : List (Bor Column)) (ps : List (Option (ℕ × ℕ))) → All IsPicked (items_at cs 0 ps)
items_picked_all cs [] = All-nil IsPicked
items_picked_all cs (p ∷ ps) = All-append IsPicked (item_picks cs 0 p) (items_at cs 0 ps) (list_picked cs p) (items_picked_all cs ps)

-- ---- row references that fit

pub row_fits : (xss : List (List Value)) (p : Option (ℕ × ℕ)) → IsRow xss p → PickFits xss p
row_fits xss None is = tt
row_fits xss (Some p) is = is p refl

pub rows_fit_all : (xss : List (List Value)) (ps : List (Option (ℕ × ℕ))) → All (IsRow xss) ps → All (PickFits xss) ps
rows_fit_all xss ps are k d h = row_fits xss (get_or ps k d) (are k d h)

pub fits_rows : (xss : List (List Value)) (ps : List (Option (ℕ × ℕ))) → All (PickFits xss) ps → All (IsRow xss) ps
fits_rows xss ps fits k d h p is = subst (PickFits xss) is (fits k d h)

-- ---- the next list with items

pub some_left : (cs : List (Bor Column)) (w : ℕ) (ps : List (Option (ℕ × ℕ))) → 0 < length (items_at cs w ps) → 0 < length ps
some_left cs w [] h = absurd (omega (arith, h))
some_left cs w (p ∷ ps) h = omega arith

module _ (cs : List (Bor Column)) (w : ℕ) (all left : List (Option (ℕ × ℕ))) (run : Run) (empty : run.len ≡ 0) (behind : all ≡ unrolled run ++ items_at cs w left) where
  none_between : all ≡ items_at cs w left
  none_between = behind ∙ ap (λ l. l ++ items_at cs w left) (none_unrolled run empty)

  pub lists_left : 0 < length all → 0 < length left
  lists_left some = some_left cs w left (omega (arith, some, ap length none_between))

  pub next_list : (p : Option (ℕ × ℕ)) (rest : List (Option (ℕ × ℕ))) (new : Run) → left ≡ p ∷ rest → unrolled new ≡ item_picks cs w p → all ≡ unrolled new ++ items_at cs w rest
  next_list p rest new next is = none_between ∙ ap (items_at cs w) next ∙ ap (λ l. l ++ items_at cs w rest) (sym is)

-- ---- lists that are not null

not_null : (s : Shape) → is_listing s ≡ true → s ≢ of_null
not_null s is none = absurd (cc (is, none))

valid_row : (s : Shape) (vs : List Value) (i : ℕ) → s ≢ of_null → IsValidityOf s None vs → i < length vs → get_or vs i Null ≡ Null → ⊥
valid_row s vs i other tells h null = absurd (cc (told_row s None vs i other tells h, ap is_valid null))

list_shown : (cs : List (Bor Column)) (w : ℕ) (p : Option (ℕ × ℕ)) → All (λ c. is_listing (type_of c.now) ≡ true) cs → All (λ c. IsWellFormed c.now) cs → All (λ c. IsValidityOf (type_of c.now) None (rows c.now)) cs →
    PickFits (rows_of cs) p → IsPicked p → All IsPicked (item_picks cs w p)
list_shown cs w None listing formed none fits picked = absurd picked
list_shown [] w (Some p) listing formed none fits picked = absurd (omega (arith, fits))
list_shown (x ∷ cs) w (Some p) listing formed none fits picked =
    let there = there x cs w p listing formed fits in
    let c = get_or (x ∷ cs) p.0 x in
    let inside : p.1 < length (rows c.now) = omega (arith, fits, ap length (rows_at x cs w p listing formed fits)) in
    let one : (o : Option (ℕ × ℕ)) → IsPart c.now p.1 o → All IsPicked (part_picks w p.0 o) =
    λ o. elim o as (λ (r : Option (ℕ × ℕ)). IsPart c.now p.1 r → All IsPicked (part_picks w p.0 r)) [
      | None ↦ λ is. absurd (valid_row (type_of c.now) (rows c.now) p.1 (not_null (type_of c.now) (listing p.0 x there)) (none p.0 x there) inside is)
      | Some q ↦ λ is. picked_rows p.0 q.0 q.1
    ]
    in
    subst (λ (g : ℕ → Option (ℕ × ℕ)). All IsPicked (part_picks w p.0 (g p.1))) (sym (parts_at x cs w p listing formed fits)) (one (part_of c.now p.1) (part x cs w p listing formed fits))

-- No item is null if no list and no row reference is.
pub items_shown : (cs : List (Bor Column)) (w : ℕ) (ps : List (Option (ℕ × ℕ))) → All (λ c. is_listing (type_of c.now) ≡ true) cs → All (λ c. IsWellFormed c.now) cs → All (λ c. IsValidityOf (type_of c.now) None (rows c.now)) cs →
    All (IsRow (rows_of cs)) ps → All IsPicked ps → All IsPicked (items_at cs w ps)
items_shown cs w [] listing formed none fits picked = All-nil IsPicked
items_shown cs w (p ∷ ps) listing formed none fits picked =
    All-append IsPicked (item_picks cs w p) (items_at cs w ps)
    (list_shown cs w p listing formed none (row_fits (rows_of cs) p (All-head (IsRow (rows_of cs)) p ps fits)) (All-head IsPicked p ps picked))
    (items_shown cs w ps listing formed none (All-tail (IsRow (rows_of cs)) p ps fits) (All-tail IsPicked p ps picked))

-- ---- one more list

module _ (cs : List (Bor Column)) (listing : All (λ c. is_listing (type_of c.now) ≡ true) cs) (formed : All (λ c. IsWellFormed c.now) cs) (ps rest : List (Option (ℕ × ℕ))) (p : Option (ℕ × ℕ)) (k : ℕ) (next : drop k ps ≡ p ∷ rest)
    (fits : All (PickFits (rows_of cs)) ps) (list : Run) (is : unrolled list ≡ item_picks cs 0 p) where
  abbrev more : List Value
  more = found Null (rows_of cs) p ∷ []

  abbrev before : List Value
  before = pick Null (rows_of cs) (take k ps)

  abbrev now : List Value
  now = pick Null (rows_of cs) (take (k + 1) ps)

  now_is : now ≡ before ++ more
  now_is = pick_next Null (rows_of cs) ps k (next_below ps rest p k next) ∙ ap (λ q. before ++ found Null (rows_of cs) q ∷ []) (next_is ps rest p k next)

  list_counts : list.len ≡ length (items_in 0 (found Null (rows_of cs) p))
  list_counts = sym (length-unrolled list) ∙ ap length is ∙ list_long cs listing formed 0 p (next_all (PickFits (rows_of cs)) ps rest p k next fits)

  list_joins : list.len ≡ length (joined_items 0 more)
  list_joins = list_counts ∙ ap length (sym (append-nil (items_in 0 (found Null (rows_of cs) p))))

  module _ (end : ℕ) (counted : end ≡ length (joined_items 0 before)) where
    pub counted_more : end + list.len ≡ length (joined_items 0 now)
    counted_more = counts_behind 0 now before more end (end + list.len) now_is counted (ap (λ n. end + n) list_joins)

    pub counted_below : end + list.len ≤ length (joined_items 0 (pick Null (rows_of cs) ps))
    counted_below = omega (arith, counted_more, joined_first 0 (rows_of cs) ps (k + 1))

    pub ended_more : (old new : List ℤ) (last : ℤ) → last ≡ pos (end + list.len) → old ≡ map pos (0 ∷ item_ends 0 before) → new ≡ old ++ last ∷ [] → new ≡ map pos (0 ∷ item_ends 0 now)
    ended_more old new last shown so_far pushed =
        ends_behind now before more end old new now_is counted so_far (pushed ∙ ap (λ x. old ++ x ∷ []) (shown ∙ ap (λ n. pos (end + n)) list_counts))
