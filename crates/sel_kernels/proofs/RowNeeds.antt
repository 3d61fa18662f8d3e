-- What filtered rows, rows in reverse order and the rows of a well-formed column need.
use Rattle.sel_kernels.proofs.Common.{common_steps, ◌≡◌, ℕ, zero, suc, pos, true, false, List, [], ◌∷◌, map, get_or, refl, ap, sym, ◌∙◌, arith, length-map}
use Rattle.sel_kernels.proofs.Common.{Value, Null, Number, inl, inr, ◌+◌, ◌≤◌, ◌<◌, Bool, ◌++◌, length, replicate, subst, ◌<ℤ◌, ints, max_rows, Limit}
use Rattle.sel_kernels.proofs.Common.{ByteLimit, rows, type_of, well_formed, Shape, Shapes, no_shapes, next_shape, of_large_binary, of_large_list}
use Rattle.sel_kernels.proofs.Common.{of_fixed_size_list, of_struct, Column, length-rows, items_in, joined_items, part_at, few_rows, bytes_needed}
use Rattle.sel_kernels.proofs.Common.{ExceedsBytes, exceeded_limits, exceeded_in_parts, so_many_rows, so_many_bytes, need, need_of_parts, NoneAbove, select}
use Rattle.sel_kernels.proofs.Common.{few_kept, few_rows_pass, ExceedsNone, cases_lt, ⊎_elim, length-append, append-nil, take, reverse, map-append, take_all}
use Rattle.sel_kernels.proofs.Common.{take_more, take_rows, all_within, last_to_first}
use Rattle.sel_kernels.{proofs.Selects.select-map, specs.Need.Needed, specs.Need.NoneGreater}
use Rattle.sel_bits.specs.declared.faults.Limit.TheVariants.{Rows as RowLimit}
use Rattle.sel_gather.proofs.{Thinned.whole_fits, ItemRuns.joined-append, JoinedRows.needed-append}
use mathlib.Core.List.{reverse_aux}
use Rattle.std.proofs.lemmas.List.{length-reverse, reverse-append}

-- The bit of each row, once for each of its entries.
abbrev spread : ℕ → List Value → List Bool → List Bool
spread w [] ms = []
spread w (v ∷ vs) [] = []
spread w (v ∷ vs) (m ∷ ms) = replicate (length (items_in w v)) m ++ spread w vs ms

select_front : (vs ws : List Value) (ms : List Bool) → select (vs ++ ws) (replicate (length vs) true ++ ms) ≡ vs ++ select ws ms
select_front [] ws ms = refl
select_front (v ∷ vs) ws ms = ap (λ l. v ∷ l) (select_front vs ws ms)

select_behind : (vs ws : List Value) (ms : List Bool) → select (vs ++ ws) (replicate (length vs) false ++ ms) ≡ select ws ms
select_behind [] ws ms = refl
select_behind (v ∷ vs) ws ms = select_behind vs ws ms

select_none : (vs : List Value) → select vs [] ≡ []
select_none [] = refl
select_none (v ∷ vs) = refl

-- The entries of filtered rows are filtered entries.
items_kept : (w : ℕ) (vs : List Value) (ms : List Bool) → joined_items w (select vs ms) ≡ select (joined_items w vs) (spread w vs ms)
items_kept w [] ms = refl
items_kept w (v ∷ vs) [] = sym (select_none (items_in w v ++ joined_items w vs))
items_kept w (v ∷ vs) (true ∷ ms) = ap (λ l. items_in w v ++ l) (items_kept w vs ms) ∙ sym (select_front (items_in w v) (joined_items w vs) (spread w vs ms))
items_kept w (v ∷ vs) (false ∷ ms) = items_kept w vs ms ∙ sym (select_behind (items_in w v) (joined_items w vs) (spread w vs ms))

bytes_kept : (vs : List Value) (ms : List Bool) → bytes_needed (select vs ms) ≤ bytes_needed vs
bytes_kept (v ∷ vs) (true ∷ ms) = let rest = bytes_kept vs ms in omega (arith, rest)
bytes_kept (v ∷ vs) (false ∷ ms) = let rest = bytes_kept vs ms in omega (arith, rest)
bytes_kept vs ms = omega arith

greater-append : (ks bs cs ds : List Needed) → NoneGreater ks bs → NoneGreater cs ds → NoneGreater (ks ++ cs) (bs ++ ds)
greater-append [] [] cs ds h k = k
greater-append (so_many_rows m ∷ ks) (so_many_rows n ∷ bs) cs ds h k = (h.0, greater-append ks bs cs ds h.1 k)
greater-append (so_many_bytes m ∷ ks) (so_many_bytes n ∷ bs) cs ds h k = (h.0, greater-append ks bs cs ds h.1 k)
greater-append ks bs cs ds h k = absurd h

mutual
  pub kept_needs : (s : Shape) (vs : List Value) (ms : List Bool) → NoneGreater (need s (select vs ms)) (need s vs)
  kept_needs of_large_binary vs ms = (few_kept vs ms, (bytes_kept vs ms, tt))
  kept_needs (of_large_list s) vs ms =
      (few_kept vs ms, subst (λ l. NoneGreater (need s l) (need s (joined_items 0 vs))) (sym (items_kept 0 vs ms)) (kept_needs s (joined_items 0 vs) (spread 0 vs ms)))
  kept_needs (of_fixed_size_list s w) vs ms =
      (few_kept vs ms, subst (λ l. NoneGreater (need s l) (need s (joined_items w vs))) (sym (items_kept w vs ms)) (kept_needs s (joined_items w vs) (spread w vs ms)))
  kept_needs (of_struct ss) vs ms = (few_kept vs ms, kept_parts ss 0 vs ms)
  kept_needs s vs ms = (few_kept vs ms, tt)

  kept_parts : (ss : Shapes) (j : ℕ) (vs : List Value) (ms : List Bool) → NoneGreater (need_of_parts ss j (select vs ms)) (need_of_parts ss j vs)
  kept_parts no_shapes j vs ms = tt
  kept_parts (next_shape s ss) j vs ms =
      greater-append (need s (map (part_at j) (select vs ms))) (need s (map (part_at j) vs)) (need_of_parts ss (j + 1) (select vs ms)) (need_of_parts ss (j + 1) vs)
      (subst (λ l. NoneGreater (need s l) (need s (map (part_at j) vs))) (select-map (part_at j) vs ms) (kept_needs s (map (part_at j) vs) ms))
      (kept_parts ss (j + 1) vs ms)

-- ---- needs within their limits

above-append : (ks bs : List Needed) → NoneAbove ks → NoneAbove bs → NoneAbove (ks ++ bs)
above-append [] bs h k = k
above-append (so_many_rows n ∷ ks) bs h k = (h.0, above-append ks bs h.1 k)
above-append (so_many_bytes n ∷ ks) bs h k = (h.0, above-append ks bs h.1 k)

few_items : (n : ℕ) → (max_rows < n → ⊥) → n ≤ max_rows
few_items n fits = omega (arith, fits)

few_bytes : (n : ℕ) → (pos 9223372036854775807 <ℤ pos n → ⊥) → n ≤ 9223372036854775807
few_bytes n fits = ⊎_elim (λ above. absurd (fits (omega (ints, arith, above)))) (λ below. below) (cases_lt 9223372036854775807 n)

mutual
  -- Rows that exceed no limit need no more than the limits.
  within : (s : Shape) (vs : List Value) → length vs ≤ max_rows → ((limit : Limit) → exceeded_limits s vs limit → ⊥) → NoneAbove (need s vs)
  within of_large_binary vs few fits = (few, (few_bytes (bytes_needed vs) (fits ByteLimit), tt))
  within (of_large_list s) vs few fits =
      (few, within s (joined_items 0 vs) (few_items (length (joined_items 0 vs)) (λ h. fits RowLimit (inl h))) (λ limit h. fits limit (inr h)))
  within (of_fixed_size_list s w) vs few fits =
      (few, within s (joined_items w vs) (few_items (length (joined_items w vs)) (λ h. fits RowLimit (inl h))) (λ limit h. fits limit (inr h)))
  within (of_struct ss) vs few fits = (few, within_parts ss 0 vs few fits)
  within s vs few fits = (few, tt)

  within_parts : (ss : Shapes) (j : ℕ) (vs : List Value) → length vs ≤ max_rows → ((limit : Limit) → exceeded_in_parts ss j vs limit → ⊥) → NoneAbove (need_of_parts ss j vs)
  within_parts no_shapes j vs few fits = tt
  within_parts (next_shape s ss) j vs few fits =
      above-append (need s (map (part_at j) vs)) (need_of_parts ss (j + 1) vs)
      (within s (map (part_at j) vs) (rw length-map few) (λ limit h. fits limit (inl h)))
      (within_parts ss (j + 1) vs few (λ limit h. fits limit (inr h)))

pub needs_fit : (c : Column) → well_formed c ≡ true → NoneAbove (need (type_of c) (rows c))
needs_fit c formed =
    within (type_of c) (rows c) (let few = few_rows c formed in omega (arith, few, length-rows c)) (whole_fits c formed)

-- ---- limits decided by needs

above-parts : (ks bs : List Needed) → NoneAbove (ks ++ bs) → NoneAbove ks × NoneAbove bs
above-parts [] bs h = (tt, h)
above-parts (so_many_rows n ∷ ks) bs h = let rest = above-parts ks bs h.1 in ((h.0, rest.0), rest.1)
above-parts (so_many_bytes n ∷ ks) bs h = let rest = above-parts ks bs h.1 in ((h.0, rest.0), rest.1)

rows_few : (s : Shape) (vs : List Value) → NoneAbove (need s vs) → length vs ≤ max_rows
rows_few of_large_binary vs h = h.0
rows_few s vs h = h.0

not_bytes : (vs : List Value) (limit : Limit) → bytes_needed vs ≤ 9223372036854775807 → ExceedsBytes (pos 9223372036854775807) vs limit → ⊥
not_bytes vs ByteLimit few e = omega (ints, arith, few, e)
not_bytes vs limit few e = e

mutual
  -- Rows that need no more than the limits exceed none.
  below : (s : Shape) (vs : List Value) → NoneAbove (need s vs) → (limit : Limit) → exceeded_limits s vs limit → ⊥
  below of_large_binary vs h limit e = not_bytes vs limit h.1.0 e
  below (of_large_list s) vs h limit (inl e) = few_rows_pass (length (joined_items 0 vs)) (rows_few s (joined_items 0 vs) h.1) limit e
  below (of_large_list s) vs h limit (inr e) = below s (joined_items 0 vs) h.1 limit e
  below (of_fixed_size_list s w) vs h limit (inl e) = few_rows_pass (length (joined_items w vs)) (rows_few s (joined_items w vs) h.1) limit e
  below (of_fixed_size_list s w) vs h limit (inr e) = below s (joined_items w vs) h.1 limit e
  below (of_struct ss) vs h limit e = below_parts ss 0 vs h.1 limit e
  below s vs h limit e = e

  below_parts : (ss : Shapes) (j : ℕ) (vs : List Value) → NoneAbove (need_of_parts ss j vs) → (limit : Limit) → exceeded_in_parts ss j vs limit → ⊥
  below_parts no_shapes j vs h limit e = e
  below_parts (next_shape s ss) j vs h limit (inl e) =
      below s (map (part_at j) vs) (above-parts (need s (map (part_at j) vs)) (need_of_parts ss (j + 1) vs) h).0 limit e
  below_parts (next_shape s ss) j vs h limit (inr e) =
      below_parts ss (j + 1) vs (above-parts (need s (map (part_at j) vs)) (need_of_parts ss (j + 1) vs) h).1 limit e

pub needs_decide : (s : Shape) (xs : List Value) → length xs ≤ max_rows →
    (NoneAbove (need s xs) → ExceedsNone (exceeded_limits s xs)) × (ExceedsNone (exceeded_limits s xs) → NoneAbove (need s xs))
needs_decide s xs few = (below s xs, within s xs few)

-- ---- filtered rows exceed no limit

not_above : (ks bs : List Needed) → NoneGreater ks bs → NoneAbove bs → NoneAbove ks
not_above [] [] fewer h = tt
not_above (so_many_rows m ∷ ks) (so_many_rows n ∷ bs) fewer h = (omega (arith, fewer.0, h.0), not_above ks bs fewer.1 h.1)
not_above (so_many_bytes m ∷ ks) (so_many_bytes n ∷ bs) fewer h = (omega (arith, fewer.0, h.0), not_above ks bs fewer.1 h.1)
not_above ks bs fewer h = absurd fewer

pub kept_fits : (c : Column) → well_formed c ≡ true → (ms : List Bool) → ExceedsNone (exceeded_limits (type_of c) (select (rows c) ms))
kept_fits c formed ms =
    let s = type_of c in
    let few : length (select (rows c) ms) ≤ max_rows = omega (arith, few_kept (rows c) ms, few_rows c formed, length-rows c) in
    (needs_decide s (select (rows c) ms) few).0 (not_above (need s (select (rows c) ms)) (need s (rows c)) (kept_needs s (rows c) ms) (needs_fit c formed))

-- ---- rows in reverse order: a take of all rows, which needs as much as they do

abbrev numbers : List ℕ → List Value
numbers places = map (λ place. Number (pos place)) places

taken : (vs : List Value) (n : ℕ) → n ≤ length vs → take_rows vs (numbers (last_to_first n)) ≡ reverse (take n vs)
taken vs zero few = refl
taken vs (suc n) few =
    let rest = taken vs n (omega (arith, few)) in
    let step : n + 1 ≡ suc n = omega arith in
    ap (λ l. get_or vs n Null ∷ l) rest ∙ sym (reverse-append (take n vs) (get_or vs n Null ∷ [])) ∙ ap reverse (sym (take_more vs n Null (omega (arith, few)))) ∙ ap (λ m. reverse (take m vs)) step

pub reversed_take : (vs : List Value) (n : ℕ) → n ≡ length vs → take_rows vs (numbers (last_to_first n)) ≡ reverse vs
reversed_take vs n is = taken vs n (omega (arith, is)) ∙ ap reverse (take_all n vs (omega (arith, is)))

pub all_inside : (len n : ℕ) → n ≤ len → all_within len (numbers (last_to_first n)) ≡ true
all_inside len zero few = refl
all_inside len (suc n) few = grind (arith, all_inside len n (omega (arith, few)), few)

-- ---- the needs

swapped_lengths : (xs ys zs : List Value) → length (xs ++ (ys ++ zs)) ≡ length (ys ++ (xs ++ zs))
swapped_lengths xs ys zs = simp length-append (omega arith)

swapped_bytes : (xs ys zs : List Value) → bytes_needed (xs ++ (ys ++ zs)) ≡ bytes_needed (ys ++ (xs ++ zs))
swapped_bytes xs ys zs = simp needed-append (omega arith)

joined_three : (w : ℕ) (xs ys zs : List Value) → joined_items w (xs ++ (ys ++ zs)) ≡ joined_items w xs ++ (joined_items w ys ++ joined_items w zs)
joined_three w xs ys zs = joined-append w xs (ys ++ zs) ∙ ap (λ l. joined_items w xs ++ l) (joined-append w ys zs)

parts_three : (j : ℕ) (xs ys zs : List Value) → map (part_at j) (xs ++ (ys ++ zs)) ≡ map (part_at j) xs ++ (map (part_at j) ys ++ map (part_at j) zs)
parts_three j xs ys zs = map-append (part_at j) xs (ys ++ zs) ∙ ap (λ l. map (part_at j) xs ++ l) (map-append (part_at j) ys zs)

-- The needs of the children, which their order does not change.
swapped_items : (s : Shape) (w : ℕ) (xs ys zs : List Value) → ((us vs ws : List Value) → need s (us ++ (vs ++ ws)) ≡ need s (vs ++ (us ++ ws))) →
    so_many_rows (length (xs ++ (ys ++ zs))) ∷ need s (joined_items w (xs ++ (ys ++ zs))) ≡ so_many_rows (length (ys ++ (xs ++ zs))) ∷ need s (joined_items w (ys ++ (xs ++ zs)))
swapped_items s w xs ys zs same = grind (arith, common_steps, swapped_lengths, joined_three)

mutual
  -- The order of rows does not change what they need.
  swapped : (s : Shape) (xs ys zs : List Value) → need s (xs ++ (ys ++ zs)) ≡ need s (ys ++ (xs ++ zs))
  swapped of_large_binary xs ys zs = cc (swapped_lengths xs ys zs, swapped_bytes xs ys zs)
  swapped (of_large_list s) xs ys zs = swapped_items s 0 xs ys zs (swapped s)
  swapped (of_fixed_size_list s w) xs ys zs = swapped_items s w xs ys zs (swapped s)
  swapped (of_struct ss) xs ys zs = cc (swapped_lengths xs ys zs, swapped_parts ss 0 xs ys zs)
  swapped s xs ys zs = cc (swapped_lengths xs ys zs)

  swapped_parts : (ss : Shapes) (j : ℕ) (xs ys zs : List Value) → need_of_parts ss j (xs ++ (ys ++ zs)) ≡ need_of_parts ss j (ys ++ (xs ++ zs))
  swapped_parts no_shapes j xs ys zs = refl
  swapped_parts (next_shape s ss) j xs ys zs =
      let part = swapped s (map (part_at j) xs) (map (part_at j) ys) (map (part_at j) zs) in
      cc (parts_three j xs ys zs, parts_three j ys xs zs, part, swapped_parts ss (j + 1) xs ys zs)

reversed_onto : (s : Shape) (xs ys : List Value) → need s (reverse_aux xs ys) ≡ need s (xs ++ ys)
reversed_onto s [] ys = refl
reversed_onto s (x ∷ xs) ys = reversed_onto s xs (x ∷ ys) ∙ swapped s xs (x ∷ []) ys

reversed_needs : (s : Shape) (xs : List Value) → need s (reverse xs) ≡ need s xs
reversed_needs s xs = reversed_onto s xs [] ∙ ap (need s) (append-nil xs)

-- The rows of a well-formed column exceed no limit in reverse order.
pub reversed_fits : (c : Column) → well_formed c ≡ true → ExceedsNone (exceeded_limits (type_of c) (reverse (rows c)))
reversed_fits c formed =
    let s = type_of c in
    let few : length (reverse (rows c)) ≤ max_rows = rw length-reverse (let count = few_rows c formed in omega (arith, count, length-rows c)) in
    (needs_decide s (reverse (rows c)) few).0 (subst NoneAbove (sym (reversed_needs s (rows c))) (needs_fit c formed))
