-- The items of the lists of one column, by the start of each list and the ends of all.
use Rattle.sel_gather.proofs.Common.{common_steps, ◌≡◌, ◌∙◌, ◌+◌, ◌-◌, ◌≤◌, ◌<◌, ◌∷◌, [], ◌++◌, All, Bor, ℕ, ℤ, List, Option, Some, true, not, nat_le, ◌&&◌}
use Rattle.sel_gather.proofs.Common.{refl, ap, sym, arith, length, map, pos, take, drop, get_or, length-append, length-map-range_with_len, All-append, All-head}
use Rattle.sel_gather.proofs.Common.{All-nil, All-tail, take_all, take_more, le-leb, leb-true, and_first, and_second, both, max_rows, type_of, IsWellFormed}
use Rattle.sel_gather.proofs.Common.{Null, Value, Column, is_listing, items_in, joined_items, item_ends, item_picks, items_at, found, pick, PickFits, IsPicked}
use Rattle.sel_gather.proofs.Common.{expand, picks_of, unrolled, Run}
use Rattle.std.proofs.{Common.negsuc, Common.of_z, Common.rules, Common.to_z, Common.w64, lemmas.Int.to_z-of_z}
use Rattle.sel_bits.specs.Signs.{is_negative, magnitude}
use Rattle.sel_gather.specs.Spans.{AreStarts, are_ends, spans}
use Rattle.sel_runs.proofs.Gathers.{next_below, next_is}
use Rattle.sel_gather.proofs.{ItemPicks.list_long, ItemRuns.rows_of}
use Rattle.sel_runs.proofs.RunLists.{length-unrolled, picked_rows}

-- ---- starts

length-picks : (s a n : ℕ) → length (picks_of s a n) ≡ n
length-picks s a n = length-map-range_with_len (λ i. let p : Option (ℕ × ℕ) = Some (s, i) in p) a n

one_start : (cs : List (Bor Column)) (p : Option (ℕ × ℕ)) (s n : ℕ) → picks_of 0 s n ≡ item_picks cs 0 p → item_picks cs 0 p ≡ picks_of 0 s (length (item_picks cs 0 p))
one_start cs p s n is = sym is ∙ ap (picks_of 0 s) (sym (length-picks 0 s n) ∙ ap length is)

starts_more : (cs : List (Bor Column)) (ps : List (Option (ℕ × ℕ))) (starts : List ℕ) (p : Option (ℕ × ℕ)) (s n : ℕ) → AreStarts cs ps starts → picks_of 0 s n ≡ item_picks cs 0 p → AreStarts cs (ps ++ p ∷ []) (starts ++ s ∷ [])
starts_more cs [] [] p s n are is = (one_start cs p s n is, tt)
starts_more cs [] (t ∷ starts) p s n are is = absurd are
starts_more cs (q ∷ ps) [] p s n are is = absurd are
starts_more cs (q ∷ ps) (t ∷ starts) p s n are is = (are.0, starts_more cs ps starts p s n are.1 is)

-- One more list.
pub started_more : (cs : List (Bor Column)) (ps rest : List (Option (ℕ × ℕ))) (p : Option (ℕ × ℕ)) (k s n : ℕ) (old new : List ℕ) → drop k ps ≡ p ∷ rest → picks_of 0 s n ≡ item_picks cs 0 p →
    AreStarts cs (take k ps) old → new ≡ old ++ s ∷ [] → AreStarts cs (take (k + 1) ps) new
started_more cs ps rest p k s n old new next is are pushed = grind (arith, common_steps, starts_more, take_more, next_below, next_is)

-- ---- ends

-- The first end, and those after it.
pub record FirstEnd (at : ℕ) (end : ℤ) (ends : List ℤ) : Type 0 where
  pub is : end ≡ pos (magnitude end)
  pub rises : at ≤ magnitude end
  pub few : magnitude end ≤ max_rows
  pub after : are_ends (magnitude end) ends ≡ true

positive : (z : ℤ) → not (is_negative z) ≡ true → z ≡ pos (magnitude z)
positive (pos n) is = refl
positive (negsuc n) is = absurd (cc is)

pub first_end : (at : ℕ) (end : ℤ) (ends : List ℤ) → are_ends at (end ∷ ends) ≡ true → FirstEnd at end ends
first_end at end ends are = grind (arith, common_steps, and_first, nat_le, positive, leb-true, and_second)

-- The ends of lists.
pub ends_are : (rows : List Value) (at : ℕ) → at + length (joined_items 0 rows) ≤ max_rows → are_ends at (map pos (item_ends at rows)) ≡ true
ends_are [] at room = refl
ends_are (row ∷ rows) at room =
    let end = at + length (items_in 0 row) in
    let long = length-append (items_in 0 row) (joined_items 0 rows) in
    both (nat_le at end && nat_le end max_rows) (are_ends end (map pos (item_ends end rows)))
    (both (nat_le at end) (nat_le end max_rows) (le-leb at end (omega arith)) (le-leb end max_rows (omega (arith, room, long))))
    (ends_are rows end (omega (arith, room, long)))

-- ---- the items of all lists

pub spans_are : (cs : List (Bor Column)) → All (λ c. is_listing (type_of c.now) ≡ true) cs → All (λ c. IsWellFormed c.now) cs → (ps : List (Option (ℕ × ℕ))) (starts : List ℕ) (at : ℕ) → AreStarts cs ps starts →
    All (PickFits (rows_of cs)) ps → expand (spans starts at (map pos (item_ends at (pick Null (rows_of cs) ps)))) ≡ items_at cs 0 ps
spans_are cs listing formed [] [] at are fits = refl
spans_are cs listing formed [] (s ∷ starts) at are fits = absurd are
spans_are cs listing formed (p ∷ ps) [] at are fits = absurd are
spans_are cs listing formed (p ∷ ps) (s ∷ starts) at are fits =
    let n = length (items_in 0 (found Null (rows_of cs) p)) in
    let long : length (item_picks cs 0 p) ≡ n = list_long cs listing formed 0 p (All-head (PickFits (rows_of cs)) p ps fits) in
    let count : at + n - at ≡ length (item_picks cs 0 p) = omega (arith, long) in
    let rest = spans_are cs listing formed ps starts (at + n) are.1 (All-tail (PickFits (rows_of cs)) p ps fits) in
    (λ i. picks_of 0 s (count i) ++ rest i) ∙ ap (λ l. l ++ items_at cs 0 ps) (sym are.0)

-- The same for the offsets of the lists, of which the first is 0.
module _ (cs : List (Bor Column)) (listing : All (λ c. is_listing (type_of c.now) ≡ true) cs) (formed : All (λ c. IsWellFormed c.now) cs) (ps : List (Option (ℕ × ℕ))) (starts : List ℕ) (ends : List ℤ)
    (fits : All (PickFits (rows_of cs)) ps) (are : AreStarts cs ps starts) (is : ends ≡ map pos (0 ∷ item_ends 0 (pick Null (rows_of cs) ps))) where
  abbrev last : List ℤ
  last = take (length ends - 1) (drop 1 ends)

  abbrev lists : List Value
  lists = pick Null (rows_of cs) ps

  last_is : last ≡ map pos (item_ends 0 lists)
  last_is = ap (λ l. take (length l - 1) (drop 1 l)) is ∙ take_all (length (map pos (0 ∷ item_ends 0 lists)) - 1) (map pos (item_ends 0 lists)) (omega arith)

  pub items_are : expand (spans starts 0 last) ≡ items_at cs 0 ps
  items_are = ap (λ l. expand (spans starts 0 l)) last_is ∙ spans_are cs listing formed ps starts 0 are fits

  pub last_rise : length (joined_items 0 lists) ≤ max_rows → are_ends 0 last ≡ true
  last_rise few = ap (are_ends 0) last_is ∙ ends_are lists 0 (omega (arith, few))

-- ---- the iterator

some_spans : (starts : List ℕ) (at : ℕ) (ends : List ℤ) → 0 < length (expand (spans starts at ends)) → (0 < length starts) × (0 < length ends)
some_spans [] at ends some = absurd (omega (arith, some))
some_spans (s ∷ starts) at [] some = absurd (omega (arith, some))
some_spans (s ∷ starts) at (e ∷ ends) some = (omega arith, omega arith)

-- An end is a signed integer of 64 bits.
shown : (end : ℤ) → end ≡ pos (magnitude end) → magnitude end ≤ max_rows → to_z w64 (of_z w64 end) ≡ end
shown end is few = to_z-of_z w64 end (search (rules, is, few))

-- The end of the next list is not before the end so far.
next_rises : (at : ℕ) (ends : List ℤ) (end : ℕ) → are_ends at ends ≡ true → 0 < length ends → pos end ≡ to_z w64 (of_z w64 (get_or ends 0 (pos 0))) → at ≤ end
next_rises at [] end are more is = absurd (omega (arith, more))
next_rises at (e ∷ ends) end are more is = grind (arith, common_steps, first_end, shown)

-- Items are left, but none of the run before.
module _ (first : Run) (starts : List ℕ) (at : ℕ) (ends : List ℤ) (all : List (Option (ℕ × ℕ))) (empty : first.len ≡ 0) (picks : unrolled first ++ expand (spans starts at ends) ≡ all) (some : 0 < length all) where
  pub span_left : (0 < length starts) × (0 < length ends)
  span_left = some_spans starts at ends (omega (arith, ap length picks, length-append (unrolled first) (expand (spans starts at ends)), length-unrolled first, empty, some))

  pub span_rises : (end : ℕ) → are_ends at ends ≡ true → pos end ≡ to_z w64 (of_z w64 (get_or ends 0 (pos 0))) → at ≤ end
  span_rises end are is = next_rises at ends end are span_left.1 is

-- No item is null.
pub spans_picked : (starts : List ℕ) (at : ℕ) (ends : List ℤ) → All IsPicked (expand (spans starts at ends))
spans_picked [] at ends = All-nil IsPicked
spans_picked (s ∷ starts) at [] = All-nil IsPicked
spans_picked (s ∷ starts) at (e ∷ ends) = All-append IsPicked _ _ (picked_rows 0 s (magnitude e - at)) (spans_picked starts (magnitude e) ends)
