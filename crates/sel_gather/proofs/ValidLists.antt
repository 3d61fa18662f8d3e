-- Runs of lists between the offsets of one column, none of them null.
use Rattle.sel_gather.proofs.Common.{◌≡◌, All, Bor, ℕ, zero, suc, ◌+◌, ◌-◌, ◌≤◌, ◌<◌, true, List, [], ◌∷◌, ◌++◌, length, map, pos, Option, Some, None, Bits, ℤ, append_assoc, map-append, map-range_with_len_more, add-zero, Box, Global, refl, ap, sym, subst, ◌∙◌, arith, get_or, get_or-map}
use Rattle.sel_gather.proofs.Common.{All-head, All-tail, max_rows, rows, type_of, IsWellFormed, Column, LargeList, Null, is_listing, items_in, joined_items, item_ends, has_lists, well_formed, range_with_len}
use Rattle.sel_gather.proofs.Common.{part_of, part_picks, items_at, found, pick, PickFits, picks_of, unrolled, unrolled_from, Run}
use Rattle.sel_bits.specs.Offsets.{IsRising}
use Rattle.sel_gather.specs.ItemPicks.{HasOffsets, item_count, moved_end}
use Rattle.sel_gather.proofs.ItemPicks.{items_fit, items_long, items_picked, list_long}
use Rattle.sel_gather.proofs.ItemRuns.{below_of, rows_of, source_there}
use Rattle.sel_gather.proofs.ListParts.{ListPlace, of_list}
use Rattle.sel_runs.proofs.RunLists.{length-unrolled_from, picks_of-append, run_there}

-- ---- the offsets of the source of a run

module _ (cs : List (Bor Column)) (formed : All (λ c. IsWellFormed c.now) cs) (r : Run) (fits : All (PickFits (rows_of cs)) (unrolled r)) (some : 0 < r.len) (s : ℕ) (named : r.source ≡ Some s) (c : Bor Column) (at : c ≡ get_or cs s c)
    (offsets : List ℕ) (values : Box Column Global) (validity : Option Bits) (stored : c.now ≡ LargeList offsets values validity) (none : validity ≡ None) where
  is : c.now ≡ LargeList offsets values None
  is = stored ∙ ap (LargeList offsets values) none

  pub there : s < length cs
  there = source_there cs r s 0 named fits some

  whole : well_formed c.now ≡ true
  whole = subst (λ (x : Bor Column). IsWellFormed x.now) (sym at) (formed s c there)

  rows_at : get_or (rows_of cs) s [] ≡ rows c.now
  rows_at = get_or-map (λ (x : Bor Column). rows x.now) cs s c [] there ∙ ap (λ (x : Bor Column). rows x.now) (sym at)

  place : ListPlace offsets None (r.start + (r.len - 1))
  place =
      let inside = (run_there (rows_of cs) r s named (λ e. absurd (omega (arith, some, e))) fits).1 in
      of_list c.now offsets values None is whole (r.start + (r.len - 1)) (omega (arith, inside, some, ap length rows_at))

  last_is : (r.start + (r.len - 1)) + 1 ≡ r.start + r.len
  last_is = omega (arith, some)

  pub valid_inside : r.start + r.len < length offsets
  valid_inside = omega (arith, place.below, some)

  pub valid_few : get_or offsets (r.start + r.len) 0 ≤ max_rows
  valid_few = subst (λ i. get_or offsets i 0 ≤ max_rows) last_is place.few

  pub valid_rising : IsRising offsets
  valid_rising = (has_lists offsets values.value None (ap well_formed (sym is) ∙ whole)).rising

  pub valid_parts : HasOffsets cs r.source offsets
  valid_parts = subst (λ o. HasOffsets cs o offsets) (sym named) (λ i.
      ap (λ (g : ℕ → Option (ℕ × ℕ)). g i) (get_or-map (λ (x : Bor Column). part_of x.now) cs s c (λ i. None) there)
      ∙ ap (λ (x : Bor Column). part_of x.now i) (sym at) ∙ ap (λ x. part_of x i) is)

-- ---- the items of consecutive lists, and their ends

module _ (cs : List (Bor Column)) (listing : All (λ c. is_listing (type_of c.now) ≡ true) cs) (formed : All (λ c. IsWellFormed c.now) cs) (offsets : List ℕ) (rising : IsRising offsets) where
  items_between : (s a n : ℕ) → HasOffsets cs (Some s) offsets → a + n < length offsets → items_at cs 0 (picks_of s a n) ≡ picks_of s (get_or offsets a 0) (get_or offsets (a + n) 0 - get_or offsets a 0)
  items_between s a zero parts h =
      let none : 0 ≡ get_or offsets (a + 0) 0 - get_or offsets a 0 = omega (arith, ap (λ i. get_or offsets i 0) (add-zero a)) in
      ap (picks_of s (get_or offsets a 0)) none
  items_between s a (suc n) parts h =
      let next : (a + 1) + n ≡ a + suc n = omega arith in
      let first = get_or offsets a 0 in
      let second = get_or offsets (a + 1) 0 in
      let last = get_or offsets (a + suc n) 0 in
      let ordered : first ≤ second = rising.rising a (a + 1) (omega arith) (omega (arith, h)) in
      let after : second ≤ last = rising.rising (a + 1) (a + suc n) (omega arith) (omega (arith, h)) in
      let rest : items_at cs 0 (picks_of s (a + 1) n) ≡ picks_of s second (last - second) = subst (λ i. items_at cs 0 (picks_of s (a + 1) n) ≡ picks_of s second (get_or offsets i 0 - second)) next (items_between s (a + 1) n parts (omega (arith, h))) in
      let count : (second - first) + (last - second) ≡ last - first = omega (arith, ordered, after) in
      (λ i. part_picks 0 s (parts a i) ++ rest i) ∙ sym (picks_of-append s first second (second - first) (last - second) (omega (arith, ordered))) ∙ ap (picks_of s first) count

  ends_between : (s a n first start b : ℕ) → HasOffsets cs (Some s) offsets → a + n < length offsets → All (PickFits (rows_of cs)) (picks_of s a n) → get_or offsets first 0 ≤ get_or offsets a 0 → b ≡ moved_end offsets first start a →
      item_ends b (pick Null (rows_of cs) (picks_of s a n)) ≡ map (moved_end offsets first start) (range_with_len (a + 1) n)
  ends_between s a zero first start b parts h fits le is = refl
  ends_between s a (suc n) first start b parts h fits le is =
      let list = items_in 0 (found Null (rows_of cs) (Some (s, a))) in
      let long = sym (list_long cs listing formed 0 (Some (s, a)) (All-head (PickFits (rows_of cs)) (Some (s, a)) (picks_of s (a + 1) n) fits)) ∙ ap (λ o. length (part_picks 0 s o)) (parts a) ∙ length-unrolled_from (Some s) _ _ in
      let ordered : get_or offsets a 0 ≤ get_or offsets (a + 1) 0 = rising.rising a (a + 1) (omega arith) (omega (arith, h)) in
      let next : b + length list ≡ moved_end offsets first start (a + 1) = omega (arith, long, is, ordered, le) in
      let rest = ends_between s (a + 1) n first start (b + length list) parts (omega (arith, h)) (All-tail (PickFits (rows_of cs)) (Some (s, a)) (picks_of s (a + 1) n) fits) (omega (arith, ordered, le)) next in
      (λ i. next i ∷ rest i)

  module _ (r : Run) (parts : HasOffsets cs r.source offsets) (inside : r.start + r.len < length offsets) (fits : All (PickFits (rows_of cs)) (unrolled r)) where
    abbrev items : List (Option (ℕ × ℕ))
    items = unrolled_from r.source (get_or offsets r.start 0) (item_count offsets r)

    items_are : items ≡ items_at cs 0 (unrolled r)
    items_are = by r.source parts
      where
        by : (o : Option ℕ) → HasOffsets cs o offsets → unrolled_from o (get_or offsets r.start 0) (item_count offsets r) ≡ items_at cs 0 (unrolled_from o r.start r.len)
        by None parts = absurd parts
        by (Some s) parts = sym (items_between s r.start r.len parts inside)

    pub valid_items : pick Null (below_of cs) items ≡ joined_items 0 (pick Null (rows_of cs) (unrolled r))
    valid_items = ap (pick Null (below_of cs)) items_are ∙ items_picked cs listing formed 0 (unrolled r) fits

    pub valid_fit : All (PickFits (below_of cs)) items
    valid_fit = subst (All (PickFits (below_of cs))) (sym items_are) (items_fit cs listing formed 0 (unrolled r) fits)

    pub valid_count : item_count offsets r ≡ length (joined_items 0 (pick Null (rows_of cs) (unrolled r)))
    valid_count = sym (length-unrolled_from r.source (get_or offsets r.start 0) (item_count offsets r)) ∙ ap length items_are ∙ items_long cs listing formed 0 (unrolled r) fits

    pub valid_ends : (start : ℕ) → map (moved_end offsets r.start start) (range_with_len (r.start + 1) r.len) ≡ item_ends start (pick Null (rows_of cs) (unrolled r))
    valid_ends start = by r.source parts fits
      where
        by : (o : Option ℕ) → HasOffsets cs o offsets → All (PickFits (rows_of cs)) (unrolled_from o r.start r.len) →
            map (moved_end offsets r.start start) (range_with_len (r.start + 1) r.len) ≡ item_ends start (pick Null (rows_of cs) (unrolled_from o r.start r.len))
        by None parts fits = absurd parts
        by (Some s) parts fits = sym (ends_between s r.start r.len r.start start start parts inside fits (omega arith) (omega arith))

-- One more end.
pub pushed_end : (f : ℕ → ℕ) (old so_far new : List ℤ) (last : ℤ) (a i : ℕ) → so_far ≡ old ++ map pos (map f (range_with_len a i)) → new ≡ so_far ++ last ∷ [] → last ≡ pos (f (a + i)) → new ≡ old ++ map pos (map f (range_with_len a (i + 1)))
pushed_end f old so_far new last a i so is shown =
    let ends = map f (range_with_len a i) in
    is ∙ ap (λ l. l ++ last ∷ []) so ∙ append_assoc old (map pos ends) (last ∷ []) ∙ ap (λ x. old ++ (map pos ends ++ x ∷ [])) shown
    ∙ ap (λ l. old ++ l) (sym (map-append pos ends (f (a + i) ∷ [])) ∙ ap (map pos) (sym (map-range_with_len_more f a i (a + i) refl)))
