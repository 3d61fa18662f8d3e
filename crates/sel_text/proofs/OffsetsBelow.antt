-- Offsets of rows of any type, by the entries of each row.
use Rattle.std.proofs.Common.{◌≡◌, ℕ, ◌+◌, ◌<◌, ℤ, pos, suc, false, List, [], ◌∷◌, ◌++◌, length, map, None, refl, ap, sym, subst, ◌∙◌, arith, length-append, w64, FitsSigned, to_z, of_z, nat_lt, slice_index}
use Rattle.sel_text.proofs.Common.{mag, flat_map, slice_range, nat_tests, common_steps, append-nil, map-append, map-id, last_offset, pieces, pieces_after, rows_between, ends_below, offsets_below}
use Rattle.std.proofs.lemmas.Int.{to_z-of_z}
use Rattle.std.proofs.lemmas.Simd.{map-map}
use Rattle.std.proofs.lemmas.List.Concat.{flat_map-append}
use Rattle.sel_bits.specs.Offsets.{falls_after, has_negative, offsets_fault}

-- A position that is stored as an offset.
pub end_kept : (z : ℤ) (n : ℕ) → z ≡ pos n → n < 9223372036854775808 → to_z w64 (of_z w64 z) ≡ pos n
end_kept z n is small = to_z-of_z w64 z (subst (FitsSigned w64) (sym is) (record { sfits = small })) ∙ is

same_numbers : (ms ns : List ℕ) → map pos ms ≡ map pos ns → ms ≡ ns
same_numbers ms ns e = sym (map-map mag pos ms ∙ map-id ms) ∙ ap (map mag) e ∙ map-map mag pos ns ∙ map-id ns

none_negative : (ns : List ℕ) → has_negative (λ z. z) (map pos ns) ≡ false
none_negative [] = refl
none_negative (n ∷ ns) = none_negative ns

-- A part of a list after a prefix.
pub slice_here : {B : Type 0} (pre xs ys : List B) (a b : ℕ) → a ≡ length pre → b ≡ a + length xs → slice_range (pre ++ (xs ++ ys)) a b ≡ xs
slice_here pre xs ys a b start end = grind (arith, common_steps)

-- The entries and the offsets of rows.
pub record Holds {A B : Type 0} (below : A → List B) (rows : List A) (entries : List B) (ends : List ℤ) : Type 0 where
  pub entries_are : entries ≡ flat_map below rows
  pub ends_are : ends ≡ map pos (offsets_below below rows)

module _ {A B : Type 0} (below : A → List B) where
  behind : (place : ℕ) (row : A) (rows : List A) → place + length (below row) + length (flat_map below rows) ≡ place + length (flat_map below (row ∷ rows))
  behind place row rows = omega (arith, length-append (below row) (flat_map below rows))

  count_ends : (place : ℕ) (rows : List A) → length (ends_below below place rows) ≡ length rows
  count_ends place [] = refl
  count_ends place (row ∷ rows) = ap suc (count_ends (place + length (below row)) rows)

  last_end : (place : ℕ) (rows : List A) → slice_index (place ∷ ends_below below place rows) (length rows) ≡ place + length (flat_map below rows)
  last_end place [] = omega arith
  last_end place (row ∷ rows) = last_end (place + length (below row)) rows ∙ behind place row rows

  none_falls : (place : ℕ) (rows : List A) → falls_after (λ z. z) (pos place) (map pos (ends_below below place rows)) ≡ false
  none_falls place [] = refl
  none_falls place (row ∷ rows) = grind (arith, common_steps, nat_tests, (none_falls (place + length (below row)) rows))

  ends_more : (place : ℕ) (rows : List A) (row : A) → ends_below below place (rows ++ row ∷ []) ≡ ends_below below place rows ++ (place + length (flat_map below (rows ++ row ∷ []))) ∷ []
  ends_more place [] row = ap (λ l. (place + length l) ∷ []) (sym (append-nil (below row)))
  ends_more place (first ∷ rows) row = grind (arith, common_steps, behind, (ends_more (place + length (below first)) rows row))

  parts_back : (pre : List B) (rows : List A) → pieces_after (length pre) (ends_below below (length pre) rows) (pre ++ flat_map below rows) ≡ map below rows
  parts_back pre [] = refl
  parts_back pre (row ∷ rows) = grind (arith, common_steps, slice_here, (parts_back (pre ++ below row) rows))

  -- One more row.
  pub holds_more : (before after : List A) (row : A) (old new : List B) (ends more : List ℤ) (end : ℤ) (place : ℕ) → Holds below before old ends → after ≡ before ++ row ∷ [] → new ≡ old ++ below row → more ≡ ends ++ end ∷ [] → end ≡ pos place → place ≡ length new →
      Holds below after new more
  holds_more before after row old new ends more end place so grows put adds is there = grind (arith, common_steps, append-nil, flat_map-append, map-append, ends_more)

  -- These offsets break no rule.
  pub no_offsets_fault : (rows : List A) (entries : List B) (ends : List ℤ) → Holds below rows entries ends → offsets_fault (λ (z : ℤ). z) ends ≡ None
  no_offsets_fault rows entries ends so = ap (offsets_fault (λ (z : ℤ). z)) so.ends_are ∙ rw (none_negative (offsets_below below rows), none_falls 0 rows) refl

  -- The natural numbers of these offsets.
  pub offsets_read : (rows : List A) (entries : List B) (ends : List ℤ) (offsets : List ℕ) → Holds below rows entries ends → map (λ (z : ℤ). z) ends ≡ map pos offsets → offsets ≡ offsets_below below rows
  offsets_read rows entries ends offsets so shown = same_numbers offsets (offsets_below below rows) (sym shown ∙ map-id ends ∙ so.ends_are)

  module _ (rows : List A) (offsets : List ℕ) (are : offsets ≡ offsets_below below rows) where
    pub count_between : rows_between offsets ≡ length rows
    count_between = omega (arith, ap length are, count_ends 0 rows)

    pub ends_inside : (count : ℕ) → count ≡ length (flat_map below rows) → nat_lt count (last_offset offsets) ≡ false
    ends_inside count long = grind (arith, common_steps, count_between, last_end, nat_tests)

    -- The entries between these offsets.
    pub parts_between : (entries : List B) → entries ≡ flat_map below rows → pieces offsets entries ≡ map below rows
    parts_between entries all = ap (λ l. pieces l entries) are ∙ ap (pieces (offsets_below below rows)) all ∙ parts_back [] rows
