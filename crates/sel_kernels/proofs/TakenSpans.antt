-- Binary rows at indices: where they begin in the bytes of their source, and where they end in the result.
use Rattle.sel_kernels.proofs.Common.{common_steps, ◌≡◌, ℕ, zero, suc, ◌+◌, ◌-◌, ◌≤◌, ◌<◌, ℤ, pos, Bool, true, false, List, [], ◌∷◌, ◌++◌, length, map, take}
use Rattle.sel_kernels.proofs.Common.{drop, get_or, negsuc, ◌≤ℤ◌, Option, Some, None, refl, ap, sym, ◌∙◌, subst, arith, if◌then◌else◌, length-map}
use Rattle.sel_kernels.proofs.Common.{length-replicate, get_or-map, take_more, ltb-true, map-append, append-nil, zero-add, flat_map-append, option_map, ints}
use Rattle.sel_kernels.proofs.Common.{Bits, hidden, masked, number_rows, Covers, valid_at, length-number_rows, length-part, IsRising, last_offset, pieces}
use Rattle.sel_kernels.proofs.Common.{rows_between, get_or-pieces, length-pieces, Value, Null, Number, is_valid, validities, bits_for, finished, ends_from}
use Rattle.sel_kernels.proofs.Common.{joined_bytes, byte_count, bytes_needed, all_at, and_first, and_second, nat_lt, magnitudes, offsets_of, same_numbers}
use Rattle.sel_kernels.proofs.Common.{found, pick_of, take_rows, is_within, all_within, live_index, bit_or_true}
use Rattle.std.{specs.List.AllZip, proofs.lemmas.Slice.Zip.all_zipped_more}
use Rattle.sel_arrow.specs.{Pieces.byte_rows, Value.Bytes}
use Rattle.sel_bits.{specs.Offsets.IsOffsets, specs.Signs.magnitude, proofs.OffsetLemmas.shown_at}
use Rattle.sel_gather.proofs.JoinedRows.{built_rows, column_bytes, ends-append, needed-append, needed_part, picked_bytes, rebuilt}
use Rattle.sel_kernels.specs.{JoinedBytes.bytes_of, Spans.AreStarts, Spans.BeginsAt}
use Rattle.sel_kernels.proofs.Takes.{length-pick, row_under, within_as}

-- ---- the indices of valid rows

-- The rows at these indices, without the validity, are those at the indices.
pub live_taken : {A : Type 0} (f : A → Value) → (validity : Option Bits) (xs : List A) (d : A) (indices : List Value) → Covers validity (length xs) → all_within (length xs) indices ≡ true
    → take_rows (map f xs) (map (live_index validity) indices) ≡ take_rows (masked validity (map f xs)) indices
live_taken f validity xs d [] covers within = refl
live_taken f validity xs d (Number (pos i) ∷ indices) covers within =
    let inside = ltb-true i (length xs) (and_first _ (all_within (length xs) indices) within) in
    let here = by (valid_at validity i) (get_or-map f xs i d Null inside) ∙ sym (row_under f validity xs d i inside covers) in
    (λ j. here j ∷ live_taken f validity xs d indices covers (and_second _ _ within) j)
  where
    by : (b : Bool) → get_or (map f xs) i Null ≡ f (get_or xs i d) → found Null (map f xs ∷ []) (pick_of (if b then Number (pos i) else Null)) ≡ (if b then f (get_or xs i d) else Null)
    by true e = e
    by false e = refl
live_taken f validity xs d (index ∷ indices) covers within =
    ap (λ l. Null ∷ l) (live_taken f validity xs d indices covers (and_second (is_within (length xs) index) (all_within (length xs) indices) within))

-- ---- the index and the row at a position

-- The bits of a validity, each read from the bits alone.
pub bit_valid : (validity : Option Bits) (k : ℕ) → bit_or_true (option_map (λ v. v.bits) validity) k ≡ valid_at validity k
bit_valid None k = refl
bit_valid (Some v) k = refl

module _ (places : List ℕ) (validity : Option Bits) (k : ℕ) (inside : k < length places) (covers : Covers validity (length places)) where
  abbrev indices : List Value
  indices = number_rows pos places validity

  index_at : get_or indices k Null ≡ (if valid_at validity k then Number (pos (get_or places k 0)) else Null)
  index_at = row_under (λ x. Number (pos x)) validity places 0 k inside covers

  below : k < length indices
  below = omega (arith, length-number_rows pos places validity, inside)

  -- A valid index refers to a row.
  pub place_within : (n : ℕ) (valid : Bool) → all_within n indices ≡ true → valid ≡ valid_at validity k → valid ≡ true → get_or places k 0 < n
  place_within n valid within is set = grind (arith, common_steps, index_at, all_at, ltb-true)

  pub row_at : (rows : List Value) (valid : Bool) → valid ≡ valid_at validity k → get_or (take_rows rows indices) k Null ≡ found Null (rows ∷ []) (pick_of (if valid then Number (pos (get_or places k 0)) else Null))
  row_at rows valid is =
      get_or-map (found Null (rows ∷ [])) (map pick_of indices) k None Null (omega (arith, below, length-map indices pick_of))
      ∙ ap (found Null (rows ∷ [])) (get_or-map pick_of indices k Null None below)
      ∙ ap (λ index. found Null (rows ∷ []) (pick_of index)) (index_at ∙ ap (λ b. if b then Number (pos (get_or places k 0)) else Null) (sym is))

-- ---- the column

module _ (parts : List (List ℕ)) where
  bits_of : (bits : List Bool) (places : List ℕ) → length bits ≡ length places → all_within (length parts) (hidden bits (map (λ x. Number (pos x)) places)) ≡ true →
      bits ≡ validities (take_rows (map Bytes parts) (hidden bits (map (λ x. Number (pos x)) places)))
  bits_of [] [] same within = refl
  bits_of (true ∷ bits) (place ∷ places) same within =
      let rest = all_within (length parts) (hidden bits (map (λ x. Number (pos x)) places)) in
      let row = get_or-map Bytes parts place [] Null (ltb-true place (length parts) (and_first (nat_lt place (length parts)) rest within)) in
      (λ i. is_valid (sym row i) ∷ bits_of bits places (omega (arith, same)) (and_second (nat_lt place (length parts)) rest within) i)
  bits_of (false ∷ bits) (place ∷ places) same within = ap (λ l. false ∷ l) (bits_of bits places (omega (arith, same)) within)
  bits_of bits places same within = absurd (omega (arith, same))

long : (n : ℕ) (validity : Option Bits) → Covers validity n → length (bits_for n validity) ≡ n
long n None covers = length-replicate n true
long n (Some v) covers = covers v refl

module _ (offsets bytes places : List ℕ) (validity : Option Bits) (covers : Covers validity (length places)) (within : all_within (rows_between offsets) (number_rows pos places validity) ≡ true) where
  abbrev rows : List Value
  rows = take_rows (byte_rows offsets bytes None) (number_rows pos places validity)

  bits : bits_for (length places) validity ≡ validities rows
  bits =
      let shown = finished (λ (x : ℕ). Number (pos x)) places validity (bits_for (length places) validity) (length places) refl refl in
      let inside = within_as (rows_between offsets) (length (pieces offsets bytes)) (number_rows pos places validity) (sym (length-pieces offsets bytes)) within in
      bits_of (pieces offsets bytes) (bits_for (length places) validity) places (long (length places) validity covers) (sym (ap (all_within (length (pieces offsets bytes))) shown) ∙ inside)
      ∙ ap (λ l. validities (take_rows (byte_rows offsets bytes None) l)) (sym shown)

  pub count : length rows ≡ length places
  count = length-pick Null (byte_rows offsets bytes None ∷ []) (number_rows pos places validity) ∙ length-number_rows pos places validity

  -- A column of the rows' ends and bytes, with the validity of the indices, has the rows.
  pub column_rows : byte_rows (0 ∷ ends_from 0 rows) (joined_bytes rows) validity ≡ rows
  column_rows = rebuilt rows validity (length places) (picked_bytes (byte_rows offsets bytes) (column_bytes offsets bytes) (None ∷ []) (map pick_of (number_rows pos places validity))) count bits

-- ---- two offsets

-- Values of which the numbers are offsets.
pub magnitudes_are : {T : Type 0} (number : T → ℤ) → (xs : List T) (ns : List ℕ) → map number xs ≡ map pos ns → IsRising ns → magnitudes number xs ≡ ns
magnitudes_are number xs ns e rises = same_numbers (magnitudes number xs) ns (sym (offsets_of number xs ns e rises).positive ∙ e)

module _ {T : Type 0} (number : T → ℤ) (offsets : List T) (are : IsOffsets number offsets) (place : ℕ) where
  ordered : (valid : Bool) → (valid ≡ true → place + 1 < length offsets) → ((if valid then place else 0) ≤ (if valid then place + 1 else 0)) × ((if valid then place + 1 else 0) < length (magnitudes number offsets))
  ordered true inside = (omega arith, omega (arith, inside refl, length-map offsets (λ x. magnitude (number x))))
  ordered false inside = (omega arith, omega (arith, are.rising.some))

  module _ (valid : Bool) (inside : valid ≡ true → place + 1 < length offsets) where
    pub start_shown : (at : ℕ) (x : T) → at ≡ (if valid then place else 0) → x ≡ get_or offsets at x → number x ≡ pos (get_or (magnitudes number offsets) (if valid then place else 0) 0)
    start_shown at x at_is is =
        shown_at number offsets (magnitudes number offsets) (if valid then place else 0) x are.positive (omega (arith, (ordered valid inside).0, (ordered valid inside).1)) (is ∙ ap (λ i. get_or offsets i x) at_is)

    pub end_shown : (at : ℕ) (x : T) → at ≡ (if valid then place + 1 else 0) → x ≡ get_or offsets at x → number x ≡ pos (get_or (magnitudes number offsets) (if valid then place + 1 else 0) 0)
    end_shown at x at_is is = shown_at number offsets (magnitudes number offsets) (if valid then place + 1 else 0) x are.positive (ordered valid inside).1 (is ∙ ap (λ i. get_or offsets i x) at_is)

    pub span_rises : get_or (magnitudes number offsets) (if valid then place else 0) 0 ≤ get_or (magnitudes number offsets) (if valid then place + 1 else 0) 0
    span_rises = are.rising.rising (if valid then place else 0) (if valid then place + 1 else 0) (ordered valid inside).0 (ordered valid inside).1

-- ---- a row between two offsets

-- The row begins at a position of the bytes, and has this number of bytes.
pub record IsSpan (bytes : List ℕ) (row : Value) (start len : ℕ) : Type 0 where
  pub begins : BeginsAt bytes row (pos start)
  pub count : byte_count row ≡ len

part_span : (bytes : List ℕ) (start len : ℕ) → start + len ≤ length bytes → IsSpan bytes (Bytes (take len (drop start bytes))) start len
part_span bytes start len fits = grind (arith, common_steps, length-part)

module _ (offsets bytes : List ℕ) (rises : IsRising offsets) (room : last_offset offsets ≤ length bytes) where
  pub span_of : (valid : Bool) (place start len : ℕ) → (valid ≡ true → place < rows_between offsets) → start ≡ get_or offsets (if valid then place else 0) 0 →
      start + len ≡ get_or offsets (if valid then place + 1 else 0) 0 → IsSpan bytes (found Null (byte_rows offsets bytes None ∷ []) (pick_of (if valid then Number (pos place) else Null))) start len
  span_of true place start len within from to =
      let below : place < rows_between offsets = within refl in
      let fits : start + len ≤ length bytes = omega (arith, below, to, room, rises.rising (place + 1) (length offsets - 1) (omega (arith, below)) (omega (arith, below))) in
      let long : get_or offsets (place + 1) 0 - get_or offsets place 0 ≡ len = omega (arith, from, to) in
      let row = get_or-map Bytes (pieces offsets bytes) place [] Null (omega (arith, below, length-pieces offsets bytes)) ∙ ap Bytes (get_or-pieces offsets bytes place below ∙ (λ i. take (long i) (drop (sym from i) bytes))) in
      subst (λ v. IsSpan bytes v start len) (sym row) (part_span bytes start len fits)
  span_of false place start len within from to =
      record { begins = (omega (arith, from, room, rises.rising 0 (length offsets - 1) (omega arith) (omega (arith, rises.some))), refl); count = omega (arith, from, to) }

-- Row k of the rows at the indices, by the offsets and the places in slices.
module _ {T : Type 0} (number : T → ℤ) (slice : List T) (offsets bytes : List ℕ) (shown : map number slice ≡ map pos offsets) (rises : IsRising offsets) (room : last_offset offsets ≤ length bytes)
    (named places : List ℕ) (named_is : named ≡ places) (validity : Option Bits) (covers : Covers validity (length places)) (within : all_within (rows_between offsets) (number_rows pos places validity) ≡ true)
    (k : ℕ) (inside : k < length named) where
  here : k < length places
  here = omega (arith, inside, ap (λ (l : List ℕ). length l) named_is)

  pub placed : (valid : Bool) → valid ≡ bit_or_true (option_map (λ v. v.bits) validity) k → valid ≡ true → get_or named k 0 + 1 < length slice
  placed valid is set =
      let below = place_within places validity k here covers (rows_between offsets) valid within (is ∙ bit_valid validity k) set in
      omega (arith, below, ap (λ l. get_or l k 0) named_is, simp length-map at (ap length shown))

  pub spanned : (valid : Bool) (start len : ℕ) → valid ≡ bit_or_true (option_map (λ v. v.bits) validity) k →
      start ≡ get_or (magnitudes number slice) (if valid then get_or named k 0 else 0) 0 →
      get_or (magnitudes number slice) (if valid then get_or named k 0 else 0) 0 + len ≡ get_or (magnitudes number slice) (if valid then get_or named k 0 + 1 else 0) 0 →
      BeginsAt bytes (get_or (take_rows (byte_rows offsets bytes None) (number_rows pos places validity)) k Null) (pos start)
      × (byte_count (get_or (take_rows (byte_rows offsets bytes None) (number_rows pos places validity)) k Null) ≡ len)
  spanned valid start len is from to =
      let ms = magnitudes_are number slice offsets shown rises in
      let known = is ∙ bit_valid validity k in
      let at = get_or (magnitudes number slice) (if valid then get_or named k 0 else 0) 0 in
      let span = span_of offsets bytes rises room valid (get_or places k 0) at len (place_within places validity k here covers (rows_between offsets) valid within known)
      (λ i. get_or (ms i) (if valid then get_or (named_is i) k 0 else 0) 0) (to ∙ (λ i. get_or (ms i) (if valid then get_or (named_is i) k 0 + 1 else 0) 0)) in
      rw (from, row_at places validity k here covers (byte_rows offsets bytes None) valid known) (span.begins, span.count)

-- ---- one more row

end_from : (start : ℕ) (rows : List Value) (k : ℕ) → k ≤ length rows → get_or (start ∷ ends_from start rows) k 0 ≡ start + bytes_needed (take k rows)
end_from start rows zero h = omega arith
end_from start [] (suc k) h = absurd (omega (arith, h))
end_from start (row ∷ rows) (suc k) h = omega (arith, end_from (start + byte_count row) rows k (omega (arith, h)))

zip_at : {A B : Type 0} (R : A → B → Type 0) (xs : List A) (ys : List B) (k : ℕ) (d : A) (e : B) → AllZip R xs ys → k < length xs → R (get_or xs k d) (get_or ys k e)
zip_at R [] ys k d e all h = absurd (omega (arith, h))
zip_at R (x ∷ xs) [] k d e all h = absurd all
zip_at R (x ∷ xs) (y ∷ ys) zero d e all h = all.0
zip_at R (x ∷ xs) (y ∷ ys) (suc k) d e all h = zip_at R xs ys k d e all.1 (omega (arith, h))

pub length-ends : {T : Type 0} (number : T → ℤ) → (ends : List T) (rows : List Value) → map number ends ≡ map pos (0 ∷ ends_from 0 rows) → length ends ≡ length rows + 1
length-ends number ends rows is = omega (arith, simp length-map at (ap length is), built_rows rows)

-- No row begins before the first byte.
pub from_first : (bytes : List ℕ) (row : Value) (start : ℤ) → BeginsAt bytes row start → pos 0 ≤ℤ start
from_first bytes row (pos start) begins = omega (arith, ints)
from_first bytes row (negsuc start) begins = absurd begins

module _ (rows : List Value) (k : ℕ) (inside : k < length rows) where
  pub needed_more : bytes_needed (take (k + 1) rows) ≡ bytes_needed (take k rows) + byte_count (get_or rows k Null)
  needed_more = omega (arith, ap bytes_needed (take_more rows k Null inside), needed-append (take k rows) (get_or rows k Null ∷ []))

  pub needed_below : bytes_needed (take k rows) + byte_count (get_or rows k Null) ≤ bytes_needed rows
  needed_below = omega (arith, needed_more, needed_part rows (k + 1))

  ends_more : ends_from 0 (take (k + 1) rows) ≡ ends_from 0 (take k rows) ++ (bytes_needed (take k rows) + byte_count (get_or rows k Null)) ∷ []
  ends_more = rw (take_more rows k Null inside, ends-append 0 (take k rows), zero-add (bytes_needed (take k rows)))

  pub ended_more : {T : Type 0} (number : T → ℤ) → (old new : List T) (last : T) (end : ℕ) → map number old ≡ map pos (0 ∷ ends_from 0 (take k rows)) → new ≡ old ++ last ∷ [] → number last ≡ pos end →
      end ≡ bytes_needed (take k rows) + byte_count (get_or rows k Null) → map number new ≡ map pos (0 ∷ ends_from 0 (take (k + 1) rows))
  ended_more number old new last end so_far pushed is end_is = grind (arith, common_steps, map-append, ends_more)

  pub started_more : {T : Type 0} (number : T → ℤ) → (bytes : List ℕ) (old new : List T) (x : T) (start : ℕ) → AreStarts number bytes (take k rows) old → new ≡ old ++ x ∷ [] → number x ≡ pos start →
      BeginsAt bytes (get_or rows k Null) (pos start) → AreStarts number bytes (take (k + 1) rows) new
  started_more {T} number bytes old new x start so_far pushed is begins =
      let begins_at : Value → T → Type 0 = λ v y. BeginsAt bytes v (number y) in
      let more = all_zipped_more begins_at (take k rows) old (get_or rows k Null) x so_far (subst (BeginsAt bytes (get_or rows k Null)) (sym is) begins) in
      subst (λ l. AllZip begins_at l new) (sym (take_more rows k Null inside)) (subst (AllZip begins_at (take k rows ++ get_or rows k Null ∷ [])) (sym pushed) more)

  pub joined_more : joined_bytes (take (k + 1) rows) ≡ joined_bytes (take k rows) ++ bytes_of (get_or rows k Null)
  joined_more = rw (take_more rows k Null inside, flat_map-append bytes_of (take k rows), append-nil (bytes_of (get_or rows k Null)))

  -- The end and the start of row k.
  pub end_at : {T : Type 0} (number : T → ℤ) → (ends : List T) (end : T) → map number ends ≡ map pos (0 ∷ ends_from 0 rows) → end ≡ get_or ends (k + 1) end →
      number end ≡ pos (bytes_needed (take k rows) + byte_count (get_or rows k Null))
  end_at number ends end are is =
      shown_at number ends (0 ∷ ends_from 0 rows) (k + 1) end are (omega (arith, inside, built_rows rows)) is
      ∙ ap pos (end_from 0 rows (k + 1) (omega (arith, inside)) ∙ zero-add (bytes_needed (take (k + 1) rows)) ∙ needed_more)

  pub start_at : {T : Type 0} (number : T → ℤ) → (bytes : List ℕ) (starts : List T) (start : T) → AreStarts number bytes rows starts → start ≡ get_or starts k start → BeginsAt bytes (get_or rows k Null) (number start)
  start_at number bytes starts start are is =
      subst (λ x. BeginsAt bytes (get_or rows k Null) (number x)) (sym is) (zip_at (λ v x. BeginsAt bytes v (number x)) rows starts k Null start are inside)
