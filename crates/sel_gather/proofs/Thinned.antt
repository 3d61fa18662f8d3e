-- Rows of a column, some of them dropped and some replaced by null. They exceed no limit, since the
-- column does not.
use Rattle.sel_gather.proofs.Common.{common_steps, ◌≡◌, ◌⊎◌, inl, inr, ℕ, zero, suc, ◌+◌, ◌-◌, ◌*◌, ◌≤◌, ◌<◌, pos, Bool, true, false, ◌&&◌, ◌==◌, List, [], ◌∷◌, ◌++◌, length}
use Rattle.sel_gather.proofs.Common.{take, drop, map, replicate, Option, Some, None, refl, ap, sym, subst, ◌∙◌, arith, get_or, length-take, range_with_len}
use Rattle.sel_gather.proofs.Common.{slice_range, ints, drop-drop, get_or-map, length-drop, length-map, fill_by_all, max_rows, Bits, IsRising, Limit, RowLimit}
use Rattle.sel_gather.proofs.Common.{ByteLimit, PolarsError, OutOfMemory, SizeLimit, ComputeError, hidden, masked, list_of, list_rows, blocks, block_rows}
use Rattle.sel_gather.proofs.Common.{struct_at, pieces_after, byte_rows, last_offset, rows, rows_of_each, row_count, type_of, types_of_each, well_formed}
use Rattle.sel_gather.proofs.Common.{all_well_formed, Value, Null, Bytes, Column, Row_of-Column, end_of-Column, more_of-Column, LargeBinary, LargeList'}
use Rattle.sel_gather.proofs.Common.{FixedSizeList', Struct', and_first, and_second, has_lists, has_blocks, struct_covered, length-rows, columns_in}
use Rattle.sel_gather.proofs.Common.{joined_items, part_at, bytes_needed, IsLimitOrMemory, ExceedsBytes, ExceedsRows, exceeded_limits, exceeded_in_parts}
use Rattle.sel_gather.proofs.{TupleRows.part_found, TupleRows.rows_in, TupleRows.formed_in, ItemRuns.listed_values, ListParts.few_rows}

-- ---- a mark for each row

-- The row is dropped, kept, or replaced by null.
pub data Mark : Type 0 where
  skip : Mark
  keep : Mark
  hide : Mark

-- The rows that marks leave; those after the last mark are dropped.
abbrev pub draw : List Mark → List Value → List Value
draw [] vs = []
draw (m ∷ ms) [] = []
draw (skip ∷ ms) (v ∷ vs) = draw ms vs
draw (keep ∷ ms) (v ∷ vs) = v ∷ draw ms vs
draw (hide ∷ ms) (v ∷ vs) = Null ∷ draw ms vs

pub draw_none : (ms : List Mark) → draw ms [] ≡ []
draw_none [] = refl
draw_none (m ∷ ms) = refl

drawn_few : (ms : List Mark) (vs : List Value) → length (draw ms vs) ≤ length vs
drawn_few [] vs = omega arith
drawn_few (m ∷ ms) [] = omega arith
drawn_few (skip ∷ ms) (v ∷ vs) = let rest = drawn_few ms vs in omega (arith, rest)
drawn_few (m ∷ ms) (v ∷ vs) = let rest = drawn_few ms vs in omega (arith, rest)

drawn_needed : (ms : List Mark) (vs : List Value) → bytes_needed (draw ms vs) ≤ bytes_needed vs
drawn_needed [] vs = omega arith
drawn_needed (m ∷ ms) [] = omega arith
drawn_needed (skip ∷ ms) (v ∷ vs) = let rest = drawn_needed ms vs in omega (arith, rest)
drawn_needed (m ∷ ms) (v ∷ vs) = let rest = drawn_needed ms vs in omega (arith, rest)

draw-map : (f : Value → Value) → f Null ≡ Null → (ms : List Mark) (vs : List Value) → map f (draw ms vs) ≡ draw ms (map f vs)
draw-map f null [] vs = refl
draw-map f null (m ∷ ms) [] = refl
draw-map f null (skip ∷ ms) (v ∷ vs) = draw-map f null ms vs
draw-map f null (keep ∷ ms) (v ∷ vs) = ap (λ l. f v ∷ l) (draw-map f null ms vs)
draw-map f null (hide ∷ ms) (v ∷ vs) = ap (λ x. x ∷ map f (draw ms vs)) null ∙ ap (λ l. Null ∷ l) (draw-map f null ms vs)

draw_all : (vs : List Value) → draw (replicate (length vs) keep) vs ≡ vs
draw_all [] = refl
draw_all (v ∷ vs) = ap (λ l. v ∷ l) (draw_all vs)

-- ---- rows under a validity

-- Marks of rows under a validity, as marks of the values.
abbrev veiled : List Bool → List Mark → List Mark
veiled [] ms = ms
veiled (b ∷ bs) [] = []
veiled (true ∷ bs) (m ∷ ms) = m ∷ veiled bs ms
veiled (false ∷ bs) (skip ∷ ms) = skip ∷ veiled bs ms
veiled (false ∷ bs) (m ∷ ms) = hide ∷ veiled bs ms

draw-hidden : (bs : List Bool) (ms : List Mark) (vs : List Value) → draw ms (hidden bs vs) ≡ draw (veiled bs ms) vs
draw-hidden [] ms vs = refl
draw-hidden (b ∷ bs) [] vs = refl
draw-hidden (b ∷ bs) (m ∷ ms) [] = sym (draw_none (veiled (b ∷ bs) (m ∷ ms)))
draw-hidden (true ∷ bs) (skip ∷ ms) (v ∷ vs) = draw-hidden bs ms vs
draw-hidden (true ∷ bs) (keep ∷ ms) (v ∷ vs) = ap (λ l. v ∷ l) (draw-hidden bs ms vs)
draw-hidden (true ∷ bs) (hide ∷ ms) (v ∷ vs) = ap (λ l. Null ∷ l) (draw-hidden bs ms vs)
draw-hidden (false ∷ bs) (skip ∷ ms) (v ∷ vs) = draw-hidden bs ms vs
draw-hidden (false ∷ bs) (m ∷ ms) (v ∷ vs) = ap (λ l. Null ∷ l) (draw-hidden bs ms vs)

abbrev under : Option Bits → List Mark → List Mark
under None ms = ms
under (Some validity) ms = veiled validity.bits ms

draw-masked : (validity : Option Bits) (ms : List Mark) (vs : List Value) → draw ms (masked validity vs) ≡ draw (under validity ms) vs
draw-masked None ms vs = refl
draw-masked (Some validity) ms vs = draw-hidden validity.bits ms vs

-- ---- marks of consecutive rows

skipped : (n : ℕ) (ms : List Mark) (vs : List Value) → draw (replicate n skip ++ ms) vs ≡ draw ms (drop n vs)
skipped zero ms vs = refl
skipped (suc n) ms [] = sym (draw_none ms)
skipped (suc n) ms (v ∷ vs) = skipped n ms vs

kept : (n : ℕ) (ms : List Mark) (vs : List Value) → draw (replicate n keep ++ ms) vs ≡ take n vs ++ draw ms (drop n vs)
kept zero ms vs = refl
kept (suc n) ms [] = sym (draw_none ms)
kept (suc n) ms (v ∷ vs) = ap (λ l. v ∷ l) (kept n ms vs)

nulled : (n : ℕ) (ms : List Mark) (vs : List Value) → n ≤ length vs → draw (replicate n hide ++ ms) vs ≡ replicate n Null ++ draw ms (drop n vs)
nulled zero ms vs h = refl
nulled (suc n) ms [] h = absurd (omega (arith, h))
nulled (suc n) ms (v ∷ vs) h = ap (λ l. Null ∷ l) (nulled n ms vs (omega (arith, h)))

further : (a b : ℕ) (vs : List Value) → a ≤ b → drop b vs ≡ drop (b - a) (drop a vs)
further a b vs h = grind (arith, common_steps, drop-drop)

-- ---- lists with offsets

-- No offset is less than the one before it.
abbrev Climbs : List ℕ → Type 0
Climbs offsets = (k : ℕ) → suc k < length offsets → get_or offsets k 0 ≤ get_or offsets (suc k) 0

rising_climbs : (offsets : List ℕ) → IsRising offsets → Climbs offsets
rising_climbs offsets rises k h = rises.rising k (suc k) (omega arith) h

-- The child rows of a kept list are kept, all others are dropped.
abbrev item_marks : ℕ → List ℕ → List Mark → List Mark
item_marks a [] ms = []
item_marks a (b ∷ offsets) [] = []
item_marks a (b ∷ offsets) (keep ∷ ms) = replicate (b - a) keep ++ item_marks b offsets ms
item_marks a (b ∷ offsets) (m ∷ ms) = replicate (b - a) skip ++ item_marks b offsets ms

items_drawn : (a : ℕ) (offsets : List ℕ) (below : List Value) (ms : List Mark) → Climbs (a ∷ offsets) →
    joined_items 0 (draw ms (map list_of (pieces_after a offsets below))) ≡ draw (item_marks a offsets ms) (drop a below)
items_drawn a [] below [] climbs = refl
items_drawn a [] below (m ∷ ms) climbs = refl
items_drawn a (b ∷ offsets) below [] climbs = refl
items_drawn a (b ∷ offsets) below (keep ∷ ms) climbs =
    let piece = slice_range below a b in
    let rest = items_drawn b offsets below ms (λ k h. climbs (suc k) (omega (arith, h))) in
    ap (λ l. l ++ joined_items 0 (draw ms (map list_of (pieces_after b offsets below)))) (listed_values piece)
    ∙ ap (λ l. piece ++ l) (rest ∙ ap (draw (item_marks b offsets ms)) (further a b below (climbs 0 (omega arith))))
    ∙ sym (kept (b - a) (item_marks b offsets ms) (drop a below))
items_drawn a (b ∷ offsets) below (m ∷ ms) climbs =
    items_drawn b offsets below ms (λ k h. climbs (suc k) (omega (arith, h)))
    ∙ ap (draw (item_marks b offsets ms)) (further a b below (climbs 0 (omega arith))) ∙ sym (skipped (b - a) (item_marks b offsets ms) (drop a below))

abbrev list_marks : List ℕ → Option Bits → List Mark → List Mark
list_marks [] validity ms = []
list_marks (a ∷ offsets) validity ms = replicate a skip ++ item_marks a offsets (under validity ms)

-- The child rows of the remaining lists are the remaining child rows.
lists_drawn : (offsets : List ℕ) (below : List Value) (validity : Option Bits) (ms : List Mark) → IsRising offsets →
    joined_items 0 (draw ms (list_rows offsets below validity)) ≡ draw (list_marks offsets validity ms) below
lists_drawn [] below validity ms rises = absurd (omega (arith, rises.some))
lists_drawn (a ∷ offsets) below validity ms rises =
    ap (joined_items 0) (draw-masked validity ms (map list_of (pieces_after a offsets below)))
    ∙ items_drawn a offsets below (under validity ms) (rising_climbs (a ∷ offsets) rises) ∙ sym (skipped a (item_marks a offsets (under validity ms)) below)

-- ---- fixed-size lists

-- Each child row gets the mark of its list.
abbrev entry_marks : ℕ → ℕ → List Mark → List Mark
entry_marks w zero ms = []
entry_marks w (suc n) [] = []
entry_marks w (suc n) (m ∷ ms) = replicate w m ++ entry_marks w n ms

abbrev block_at : ℕ → List Value → ℕ → List Value
block_at w below i = slice_range below (i * w) (i * w + w)

-- One more list.
entry_drawn : (w k n : ℕ) (below : List Value) (ms : List Mark) (m : Mark) → k * w + suc n * w ≤ length below →
    joined_items w (draw ms (map list_of (map (block_at w below) (range_with_len (k + 1) n)))) ≡ draw (entry_marks w n ms) (drop w (drop (k * w) below)) →
    joined_items w (draw (m ∷ ms) (map list_of (map (block_at w below) (range_with_len k (suc n))))) ≡ draw (entry_marks w (suc n) (m ∷ ms)) (drop (k * w) below)
entry_drawn w k n below ms skip room rest = rest ∙ sym (skipped w (entry_marks w n ms) (drop (k * w) below))
entry_drawn w k n below ms hide room rest = grind (arith, common_steps, length-drop, nulled)
entry_drawn w k n below ms keep room rest = grind (arith, common_steps, listed_values, kept)

entries_drawn : (w k n : ℕ) (below : List Value) (ms : List Mark) → k * w + n * w ≤ length below →
    joined_items w (draw ms (map list_of (map (block_at w below) (range_with_len k n)))) ≡ draw (entry_marks w n ms) (drop (k * w) below)
entries_drawn w k zero below [] room = refl
entries_drawn w k zero below (m ∷ ms) room = refl
entries_drawn w k (suc n) below [] room = refl
entries_drawn w k (suc n) below (m ∷ ms) room =
    let next : (k + 1) * w ≡ k * w + w = omega arith in
    entry_drawn w k n below ms m room
    (entries_drawn w (k + 1) n below ms (omega (arith, room, next)) ∙ ap (draw (entry_marks w n ms)) (ap (λ i. drop i below) next ∙ sym (drop-drop w (k * w) below)))

blocks_drawn : (w n : ℕ) (below : List Value) (validity : Option Bits) (ms : List Mark) → length below ≡ n * w →
    joined_items w (draw ms (block_rows w n below validity)) ≡ draw (entry_marks w n (under validity ms)) below
blocks_drawn w n below validity ms fills =
    let start : 0 * w ≡ 0 = omega arith in
    ap (joined_items w) (draw-masked validity ms (map list_of (blocks w n below)))
    ∙ entries_drawn w 0 n below (under validity ms) (omega (arith, fills, start)) ∙ ap (λ i. draw (entry_marks w n (under validity ms)) (drop i below)) start

-- ---- struct rows

parts_found : (fs : List (List Value)) (j k n : ℕ) → j < length fs → map (part_at j) (map (struct_at fs) (range_with_len k n)) ≡ map (λ i. get_or (get_or fs j []) i Null) (range_with_len k n)
parts_found fs j k zero h = refl
parts_found fs j k (suc n) h = grind (arith, common_steps, part_found, (parts_found fs j (k + 1) n h))

-- The values j of the struct rows are the rows of field j.
part_rows : (n : _) (row : Row_of-Column n) (len j : ℕ) (c : Column) → all_well_formed len row ≡ true → j < length (columns_in row) →
    map (part_at j) (map (struct_at (rows_of_each row)) (range_with_len 0 len)) ≡ rows (get_or (columns_in row) j c)
part_rows n row len j c all h =
    let fs = rows_of_each row in
    let x = get_or (columns_in row) j c in
    let is : get_or fs j [] ≡ rows x = ap (λ l. get_or l j []) (rows_in _ row) ∙ get_or-map rows (columns_in row) j c [] h in
    let long : length (rows x) ≡ len = length-rows x ∙ (formed_in _ row len j c all h).0 in
    let many : j < length fs = omega (arith, h, ap length (rows_in _ row), length-map (columns_in row) rows) in
    parts_found fs j 0 len many ∙ ap (λ l. map (λ i. get_or l i Null) (range_with_len 0 len)) is
    ∙ sym (fill_by_all (λ i. get_or (rows x) i Null) (rows x) len Null long (λ k below. refl))

-- ---- binary rows

-- The rows between offsets need at most as many bytes as the last offset.
needed_pieces : (a : ℕ) (offsets bytes : List ℕ) → Climbs (a ∷ offsets) → a + bytes_needed (map Bytes (pieces_after a offsets bytes)) ≤ get_or (a ∷ offsets) (length offsets) 0
needed_pieces a [] bytes climbs = omega arith
needed_pieces a (b ∷ offsets) bytes climbs =
    let first : a ≤ b = climbs 0 (omega arith) in
    let rest : b + bytes_needed (map Bytes (pieces_after b offsets bytes)) ≤ get_or (b ∷ offsets) (length offsets) 0 =
    needed_pieces b offsets bytes (λ k h. climbs (suc k) (omega (arith, h)))
    in
    let piece : length (slice_range bytes a b) ≤ b - a = simp length-take (omega arith) in
    omega (arith, first, rest, piece)

pub bytes_drawn : (offsets bytes : List ℕ) (validity : Option Bits) (ms : List Mark) → IsRising offsets → bytes_needed (draw ms (byte_rows offsets bytes validity)) ≤ last_offset offsets
bytes_drawn [] bytes validity ms rises = absurd (omega (arith, rises.some))
bytes_drawn (a ∷ offsets) bytes validity ms rises =
    let vs = map Bytes (pieces_after a offsets bytes) in
    let last : length (a ∷ offsets) - 1 ≡ length offsets = omega arith in
    rw last
    (omega (arith, needed_pieces a offsets bytes (rising_climbs (a ∷ offsets) rises), drawn_needed (under validity ms) vs, ap bytes_needed (draw-masked validity ms vs)))

-- ---- limits

few_bytes : (vs : List Value) (limit : Limit) → bytes_needed vs ≤ 9223372036854775807 → ExceedsBytes (pos 9223372036854775807) vs limit → ⊥
few_bytes vs ByteLimit few h = absurd (omega (arith, ints, few, h))
few_bytes vs _ few h = h

few_items : (n : ℕ) (limit : Limit) → n ≤ max_rows → ExceedsRows n limit → ⊥
few_items n RowLimit few h = absurd (omega (arith, few, h))
few_items n _ few h = h

-- The remaining rows of a child exceed no limit.
below_fits : (c : Column) (ms : List Mark) (items : List Value) (limit : Limit) → well_formed c ≡ true → items ≡ draw ms (rows c) → (exceeded_limits (type_of c) (draw ms (rows c)) limit → ⊥) →
    ExceedsRows (length items) limit ⊎ exceeded_limits (type_of c) items limit → ⊥
below_fits c ms items limit formed is deeper (inl h) = grind (arith, common_steps, few_items, drawn_few, rows, length-rows, few_rows)
below_fits c ms items limit formed is deeper (inr h) = deeper (subst (λ l. exceeded_limits (type_of c) l limit) is h)

mutual
  -- The remaining rows of a well-formed column exceed no limit.
  pub drawn_fits : (c : Column) → well_formed c ≡ true → (ms : List Mark) (limit : Limit) → exceeded_limits (type_of c) (draw ms (rows c)) limit → ⊥
  drawn_fits (LargeBinary column) formed ms limit h =
      let need = bytes_drawn column.offsets column.values column.validity ms column.rising in
      few_bytes (draw ms (rows (LargeBinary column))) limit (omega (arith, need, column.values_fit, column.bytes_fit)) h
  drawn_fits (LargeList' offsets p values validity) formed ms limit h =
      let has = has_lists offsets values validity formed in
      let marks = list_marks offsets validity ms in
      below_fits values marks (joined_items 0 (draw ms (list_rows offsets (rows values) validity))) limit has.child (lists_drawn offsets (rows values) validity ms has.rising)
      (drawn_fits values has.child marks limit) h
  drawn_fits (FixedSizeList' size len p values validity) formed ms limit h =
      let has = has_blocks size len values validity formed in
      let marks = entry_marks size len (under validity ms) in
      below_fits values marks (joined_items size (draw ms (block_rows size len (rows values) validity))) limit has.child (blocks_drawn size len (rows values) validity ms (length-rows values ∙ has.fills))
      (drawn_fits values has.child marks limit) h
  drawn_fits (Struct' len n fields validity) formed ms limit h =
      let all = (struct_covered len validity (all_well_formed len fields) formed).2 in
      let vs = map (struct_at (rows_of_each fields)) (range_with_len 0 len) in
      parts_fit _ fields len 0 vs all
      (λ k d below. let place : 0 + k ≡ k = omega arith in ap (λ i. map (part_at i) vs) place ∙ part_rows _ fields len k d all below)
      (under validity ms) limit (subst (λ l. exceeded_in_parts (types_of_each fields) 0 l limit) (draw-masked validity ms vs) h)
  drawn_fits c formed ms limit h = absurd h

  parts_fit : (n : _) (row : Row_of-Column n) (len j : ℕ) (vs : List Value) → all_well_formed len row ≡ true →
      ((k : ℕ) (d : Column) → k < length (columns_in row) → map (part_at (j + k)) vs ≡ rows (get_or (columns_in row) k d)) →
      (ms : List Mark) (limit : Limit) → exceeded_in_parts (types_of_each row) j (draw ms vs) limit → ⊥
  parts_fit n end_of-Column len j vs all at ms limit h = absurd h
  parts_fit n (more_of-Column x rest) len j vs all at ms limit (inl h) =
      let two = and_first ((row_count x == len) && well_formed x) (all_well_formed len rest) all in
      let place : j ≡ j + 0 = omega arith in
      let field : map (part_at j) vs ≡ rows x = ap (λ i. map (part_at i) vs) place ∙ at 0 x (omega arith) in
      drawn_fits x (and_second (row_count x == len) (well_formed x) two) ms limit
      (subst (λ l. exceeded_limits (type_of x) l limit) (draw-map (part_at j) refl ms vs ∙ ap (draw ms) field) h)
  parts_fit n (more_of-Column x rest) len j vs all at ms limit (inr h) =
      parts_fit _ rest len (j + 1) vs (and_second ((row_count x == len) && well_formed x) (all_well_formed len rest) all)
      (λ k d below. let place : (j + 1) + k ≡ j + suc k = omega arith in ap (λ i. map (part_at i) vs) place ∙ at (suc k) d (omega (arith, below)))
      ms limit h

-- The rows of a well-formed column exceed no limit.
pub whole_fits : (c : Column) → well_formed c ≡ true → (limit : Limit) → exceeded_limits (type_of c) (rows c) limit → ⊥
whole_fits c formed limit h =
    drawn_fits c formed (replicate (length (rows c)) keep) limit (subst (λ l. exceeded_limits (type_of c) l limit) (sym (draw_all (rows c))) h)

-- If no limit is exceeded, the only possible error is out of memory.
pub memory_alone : (P : Limit → Type 0) (fault : PolarsError) → ((limit : Limit) → P limit → ⊥) → IsLimitOrMemory P fault → fault ≡ OutOfMemory
memory_alone P OutOfMemory none h = refl
memory_alone P (SizeLimit limit) none h = absurd (none limit h)
memory_alone P ComputeError none h = absurd h
