-- Binary rows without nulls: their bytes are contiguous.
use Rattle.sel_gather.proofs.Common.{common_steps, All-map, ◌≡◌, All, ℕ, zero, suc, ◌+◌, ◌-◌, ◌≤◌, ◌<◌, pos, Bool, true, false, List, [], ◌∷◌, ◌++◌, length}
use Rattle.sel_gather.proofs.Common.{take, drop, map, replicate, Option, Some, None, refl, ap, sym, subst, ◌∙◌, arith, get_or, true≢false, if◌then◌else◌}
use Rattle.sel_gather.proofs.Common.{is_some, slice_range, take-add, take_more, take_all, append-nil, drop-drop, get_or-take, get_or-drop, get_or-replicate}
use Rattle.sel_gather.proofs.Common.{length-map, flat_map-append, Bits, IsRising, binary_rows, Covers, valid_at, byte_rows, last_offset, rows_between, Value}
use Rattle.sel_gather.proofs.Common.{Null, Bytes, is_valid, validities, length-byte_rows, null_bytes, valid_bytes, length-part, cleared, IsLive, ends_from}
use Rattle.sel_gather.proofs.Common.{bytes_of, joined_bytes, byte_count, bytes_needed, found, pick, PickFits, picks_of, unrolled, IsNear, Run, Collects, Column}
use Rattle.sel_gather.proofs.Common.{ExceedsBytes, ExceedsNone, IfOk, IsLimitOrMemory, IsWellFormed, PolarsError, Result, rows, type_of}
use Rattle.std.specs.Prelude.{IfErr}
use Rattle.sel_arrow.specs.{Shape.of_large_binary, declared.binary.BinaryArray.BinaryArray}
use Rattle.sel_bits.specs.declared.native.NativeType.{Ghosts}
use Rattle.sel_gather.proofs.JoinedRows.{ends-append, length-joined, needed-append, needed_part}
use Rattle.sel_gather.proofs.{SplitRuns.bit_at, SplitRuns.null_bits}
use Rattle.sel_runs.proofs.RunLists.{run_there, pick_run}
use Rattle.sel_runs.proofs.Gathers.{map-replicate}
use Rattle.sel_runs.proofs.Mapped.{source_rows}

-- ---- contiguous parts of a list

-- A part, followed by the next one.
range_joined : {A : Type 0} (xs : List A) (a b c : ℕ) → a ≤ b → b ≤ c → slice_range xs a c ≡ slice_range xs a b ++ slice_range xs b c
range_joined xs a b c ab bc =
    let whole : c - a ≡ (b - a) + (c - b) = omega arith in
    let at : a + (b - a) ≡ b = omega arith in
    ap (λ n. take n (drop a xs)) whole ∙ take-add (b - a) (c - b) (drop a xs)
    ∙ ap (λ l. take (b - a) (drop a xs) ++ take (c - b) l) (drop-drop (b - a) a xs ∙ ap (λ n. drop n xs) at)

range_none : {A : Type 0} (xs : List A) (a : ℕ) → slice_range xs a a ≡ []
range_none xs a = let none : a - a ≡ 0 = omega arith in ap (λ n. take n (drop a xs)) none

length-range : {A : Type 0} (xs : List A) (a b : ℕ) → a ≤ b → b ≤ length xs → length (slice_range xs a b) ≡ b - a
length-range xs a b ab below = length-part xs a (b - a) (omega arith)

-- ---- a part of a binary column without nulls

-- The properties of such a part.
pub record LivePart (offsets bytes : List ℕ) (validity : Option Bits) (start len : ℕ) : Type 0 where
  pub rises : IsRising offsets
  pub ends : last_offset offsets ≤ length bytes
  pub covered : Covers validity (rows_between offsets)
  pub inside : start + len ≤ rows_between offsets
  pub live : validities (take len (drop start (byte_rows offsets bytes validity))) ≡ replicate len true

-- The same for a column.
pub live_part : {O : Type 0} {type : Ghosts O} (column : BinaryArray O type) (start len : ℕ) → start + len ≤ length (binary_rows column) → validities (take len (drop start (binary_rows column))) ≡ replicate len true
    → LivePart column.offsets column.values column.validity start len
live_part column start len inside live = grind (arith, common_steps, length-byte_rows)

module _ {offsets bytes : List ℕ} {validity : Option Bits} {start len : ℕ} (given : LivePart offsets bytes validity start len) where
  abbrev part : List Value
  part = take len (drop start (byte_rows offsets bytes validity))

  abbrev at : ℕ → ℕ
  at i = get_or offsets (start + i) 0

  first_at : at 0 ≡ get_or offsets start 0
  first_at = let first : start + 0 ≡ start = omega arith in ap (λ k. get_or offsets k 0) first

  pub part_length : length part ≡ len
  part_length = length-part (byte_rows offsets bytes validity) start len (omega (arith, length-byte_rows offsets bytes validity, given.inside))

  place : (i : ℕ) → i < len → get_or part i Null ≡ get_or (byte_rows offsets bytes validity) (start + i) Null
  place i h = get_or-take len (drop start (byte_rows offsets bytes validity)) i Null h ∙ get_or-drop start (byte_rows offsets bytes validity) i Null

  there : (i : ℕ) → i < len → is_valid (get_or part i Null) ≡ true
  there i h = sym (bit_at part i) ∙ ap (λ l. get_or l i false) given.live ∙ get_or-replicate len i true false h

  row : (i : ℕ) → i < len → get_or part i Null ≡ Bytes (slice_range bytes (at i) (at (i + 1)))
  row i h = place i h ∙ by (valid_at validity (start + i)) refl
    where
      by : (b : Bool) → valid_at validity (start + i) ≡ b → get_or (byte_rows offsets bytes validity) (start + i) Null ≡ Bytes (slice_range bytes (at i) (at (i + 1)))
      by true e =
          let next : start + i + 1 ≡ start + (i + 1) = omega arith in
          valid_bytes offsets bytes validity (start + i) e (omega (arith, given.inside, h)) given.covered ∙ ap (λ k. Bytes (slice_range bytes (at i) (get_or offsets k 0))) next
      by false e =
          let null = ap is_valid (place i h ∙ null_bytes offsets bytes validity (start + i) e (omega (arith, given.inside, h)) given.covered) in
          absurd (true≢false (sym (there i h) ∙ null))

  part_climbs : (i j : ℕ) → i ≤ j → j ≤ len → at i ≤ at j
  part_climbs i j le below = given.rises.rising (start + i) (start + j) (omega arith) (omega (arith, given.inside, below, given.rises.some))

  pub part_inside : start + len < length offsets
  part_inside = omega (arith, given.inside, given.rises.some)

  pub part_first : (i : ℕ) → i ≤ len → get_or offsets start 0 ≤ at i
  part_first i below = omega (arith, first_at, part_climbs 0 i (omega arith) below)

  pub part_below : (i : ℕ) → i ≤ len → at i ≤ length bytes
  part_below i below = omega (arith, given.rises.rising (start + i) (length offsets - 1) (omega (arith, given.inside, below)) (omega (arith, given.rises.some)), given.ends)

  so_far : (i : ℕ) → i ≤ len → joined_bytes (take i part) ≡ slice_range bytes (at 0) (at i)
  so_far zero below = sym (range_none bytes (at 0))
  so_far (suc i) below =
      let next : suc i ≡ i + 1 = omega arith in
      let h : i < len = omega arith in
      let one : bytes_of (get_or part i Null) ≡ slice_range bytes (at i) (at (i + 1)) = ap bytes_of (row i h) in
      ap (λ k. joined_bytes (take k part)) next
      ∙ ap joined_bytes (take_more part i Null (omega (arith, part_length, h)))
      ∙ flat_map-append bytes_of (take i part) (get_or part i Null ∷ [])
      ∙ (λ j. so_far i (omega arith) j ++ (one j ++ []))
      ∙ ap (λ l. slice_range bytes (at 0) (at i) ++ l) (append-nil (slice_range bytes (at i) (at (i + 1))))
      ∙ sym (range_joined bytes (at 0) (at i) (at (i + 1)) (part_climbs 0 i (omega arith) (omega arith)) (part_climbs i (i + 1) (omega arith) (omega arith)))
      ∙ ap (λ k. slice_range bytes (at 0) (at k)) (sym next)

  -- The bytes of the rows are those between the first and the last offset.
  pub part_bytes : slice_range bytes (get_or offsets start 0) (at len) ≡ joined_bytes part
  part_bytes =
      let first : start ≡ start + 0 = omega arith in
      ap (λ k. slice_range bytes (get_or offsets k 0) (at len)) first ∙ sym (so_far len (omega arith)) ∙ ap joined_bytes (take_all len part (omega (arith, part_length)))

  pub part_needed : (i : ℕ) → i ≤ len → bytes_needed (take i part) + get_or offsets start 0 ≡ at i
  part_needed i below = grind (arith, common_steps, first_at, length-joined, so_far, length-range, part_climbs, part_below)

  pub part_room : (i : ℕ) → i ≤ len → (before n : ℕ) → before + bytes_needed part ≤ n → before + (at i - get_or offsets start 0) ≤ n
  part_room i below before n room = omega (arith, part_needed i below, needed_part part i, room)

  -- One more end.
  pub part_ends : (before i : ℕ) → i < len → ends_from before (take (i + 1) part) ≡ ends_from before (take i part) ++ (before + (at (i + 1) - get_or offsets start 0)) ∷ []
  part_ends before i h =
      let v = get_or part i Null in
      let last : before + bytes_needed (take i part) + byte_count v ≡ before + (at (i + 1) - get_or offsets start 0) =
      (let both = needed-append (take i part) (v ∷ []) in
      let whole = ap bytes_needed (take_more part i Null (omega (arith, part_length, h))) in
      omega (arith, both, whole, part_needed (i + 1) (omega arith)))
      in
      ap (ends_from before) (take_more part i Null (omega (arith, part_length, h)))
      ∙ ends-append before (take i part) (v ∷ [])
      ∙ ap (λ n. ends_from before (take i part) ++ n ∷ []) last

-- ---- row references to rows that are not null

-- Null rows have no bytes, and each ends where it begins.
pub nulls_bytes : (n : ℕ) → joined_bytes (replicate n Null) ≡ []
nulls_bytes zero = refl
nulls_bytes (suc n) = nulls_bytes n

pub nulls_ends : (before n : ℕ) → ends_from before (replicate n Null) ≡ replicate n before
nulls_ends before zero = refl
nulls_ends before (suc n) = grind (arith, common_steps, (nulls_ends before n))

pub same_ends : (n before : ℕ) → map pos (replicate n before) ≡ replicate n (pos before)
same_ends n before = map-replicate pos n before

module _ (xss : List (List Value)) where
  pub live_rows : (s a n : ℕ) → All (IsLive xss) (picks_of s a n) → validities (pick Null xss (picks_of s a n)) ≡ replicate n true
  live_rows s a zero live = refl
  live_rows s a (suc n) live =
      let here : is_valid (found Null xss (Some (s, a))) ≡ true = live 0 None (omega arith) in
      (λ i. here i ∷ live_rows s (a + 1) n (λ k d h. live (suc k) d (omega (arith, h))) i)

  pub live_run : (r : Run) (s : ℕ) → r.source ≡ Some s → All (IsLive xss) (unrolled r) → validities (pick Null xss (unrolled r)) ≡ replicate r.len true
  live_run r s is live = grind (arith, common_steps, live_rows)

  -- The validity of the rows of such a run.
  pub live_bits : (r : Run) → All (IsLive xss) (unrolled r) → replicate r.len (is_some r.source) ≡ validities (pick Null xss (unrolled r))
  live_bits r live = by r.source refl
    where
      by : (o : Option ℕ) → r.source ≡ o → replicate r.len (is_some o) ≡ validities (pick Null xss (unrolled r))
      by None is = null_bits xss r is
      by (Some s) is = sym (live_run r s is live)

  -- If the row references to null rows are cleared, the gathered rows are the same.
  cleared_one : (p : Option (ℕ × ℕ)) → found Null xss (cleared xss p) ≡ found Null xss p
  cleared_one None = refl
  cleared_one (Some p) = by (found Null xss (Some p)) refl
    where
      by : (v : Value) → v ≡ found Null xss (Some p) → found Null xss (if is_valid v then Some p else None) ≡ found Null xss (Some p)
      by Null e = e
      by _ e = refl

  pub cleared_picks : (ps : List (Option (ℕ × ℕ))) → pick Null xss (map (cleared xss) ps) ≡ pick Null xss ps
  cleared_picks [] = refl
  cleared_picks (p ∷ ps) = (λ i. cleared_one p i ∷ cleared_picks ps i)

  live_one : (p : Option (ℕ × ℕ)) → IsLive xss (cleared xss p)
  live_one None = tt
  live_one (Some p) = by (is_valid (found Null xss (Some p))) refl
    where
      by : (b : Bool) → is_valid (found Null xss (Some p)) ≡ b → IsLive xss (if b then Some p else None)
      by true e = e
      by false e = tt

  pub cleared_live : (ps : List (Option (ℕ × ℕ))) → All (IsLive xss) (map (cleared xss) ps)
  cleared_live ps = All-map (IsLive xss) (cleared xss) ps (λ k d h. live_one (get_or ps k d))

  fit_one : (p : Option (ℕ × ℕ)) → PickFits xss p → PickFits xss (cleared xss p)
  fit_one None fits = tt
  fit_one (Some p) fits = by (is_valid (found Null xss (Some p)))
    where
      by : (b : Bool) → PickFits xss (if b then Some p else None)
      by true = fits
      by false = tt

  pub cleared_fits : (ps : List (Option (ℕ × ℕ))) → All (PickFits xss) ps → All (PickFits xss) (map (cleared xss) ps)
  cleared_fits ps fits = All-map (PickFits xss) (cleared xss) ps (λ k d h. fit_one (get_or ps k d) (fits k d h))

  near_one : (p : Option (ℕ × ℕ)) → IsNear p → IsNear (cleared xss p)
  near_one None near = near
  near_one (Some p) near = by (is_valid (found Null xss (Some p)))
    where
      by : (b : Bool) → IsNear (if b then Some p else None)
      by true = near
      by false = λ q is. absurd cc

  pub cleared_near : (ps : List (Option (ℕ × ℕ))) → All IsNear ps → All IsNear (map (cleared xss) ps)
  cleared_near ps near = All-map IsNear (cleared xss) ps (λ k d h. near_one (get_or ps k d) (near k d h))

-- Cleared row references to the rows of columns, as row references to those of their binary arrays.
module _ (yss xss : List (List Value)) (same : yss ≡ xss) (ps qs : List (Option (ℕ × ℕ))) (again : qs ≡ ps) where
  pub shown_fits : All (PickFits xss) ps → All (PickFits yss) (map (cleared xss) qs)
  shown_fits fits = subst (λ zss. All (PickFits zss) (map (cleared xss) qs)) (sym same) (cleared_fits xss qs (subst (All (PickFits xss)) (sym again) fits))

  pub shown_live : All (IsLive yss) (map (cleared xss) qs)
  shown_live = subst (λ zss. All (IsLive zss) (map (cleared xss) qs)) (sym same) (cleared_live xss qs)

  pub shown_rows : pick Null yss (map (cleared xss) qs) ≡ pick Null xss ps
  shown_rows = ap (λ zss. pick Null zss (map (cleared xss) qs)) same ∙ cleared_picks xss qs ∙ ap (pick Null xss) again

pub binary_collected : (r : Result Column PolarsError) (columns : List Column) (vs ws : List Value) → vs ≡ ws → IfOk r (λ column. rows column ≡ vs) → IfOk r (λ column. type_of column ≡ of_large_binary) →
    IfOk r (λ column. IsWellFormed column) → IfOk r (λ column. ExceedsNone (ExceedsBytes (pos 9223372036854775807) vs)) → IfErr r (IsLimitOrMemory (ExceedsBytes (pos 9223372036854775807) vs)) → Collects r of_large_binary columns ws
binary_collected r columns vs ws same has dtype formed within refusal = grind (arith, common_steps)

-- ---- the source of a run that is not empty

module _ {S : Type 0} (f : S → List Value) (ss : List S) (r : Run) (s : ℕ) (is : r.source ≡ Some s) (fits : All (PickFits (map f ss)) (unrolled r)) (some : r.len ≡ 0 → ⊥) where
  pub source_below : s < length ss
  source_below = omega (arith, (run_there (map f ss) r s is some fits).0, length-map ss f)

  module _ (x : S) (same : x ≡ get_or ss s x) where
    named : get_or (map f ss) s [] ≡ f x
    named = source_rows f ss s x (run_there (map f ss) r s is some fits).0 same

    pub source_inside : r.start + r.len ≤ length (f x)
    source_inside = omega (arith, (run_there (map f ss) r s is some fits).1, ap length named)

    pub source_picked : pick Null (map f ss) (unrolled r) ≡ take r.len (drop r.start (f x))
    source_picked = pick_run Null (map f ss) r s is (run_there (map f ss) r s is some fits).1 ∙ ap (λ l. take r.len (drop r.start l)) named

    pub source_live : All (IsLive (map f ss)) (unrolled r) → validities (take r.len (drop r.start (f x))) ≡ replicate r.len true
    source_live live = ap validities (sym source_picked) ∙ live_run (map f ss) r s is live
