-- The rows that a mask selects, and their positions.
use Rattle.sel_kernels.proofs.Common.{common_steps, ◌≡◌, ℕ, zero, suc, ◌+◌, ◌≤◌, ◌<◌, ℤ, Bool, true, false, List, [], ◌∷◌, length, map, drop, get_or}
use Rattle.sel_kernels.proofs.Common.{replicate, Option, Some, None, refl, ap, sym, subst, ◌∙◌, ◌++◌, arith, ◌-◌, take, ⊎_elim, add-one, cond, ◌&&◌}
use Rattle.sel_kernels.proofs.Common.{if◌then◌else◌, count_by, reverse, cases_lt, list_all, length-map, length-replicate, append-nil, get_or_past}
use Rattle.sel_kernels.proofs.Common.{length-drop, length-take, take_all, take-append-drop, sum_by-cons, max_rows, Bits, zip_with, leading_zeros, Value}
use Rattle.sel_kernels.proofs.Common.{Null, Truth, Number, hidden, masked, number_rows, Covers, view_value, View, and_first, and_second, both}
use Rattle.sel_kernels.proofs.Common.{length-number_rows, length-truth_rows, length-view_rows, few_kept, length-select, select, effective_mask, is_true}
use Rattle.sel_kernels.proofs.Common.{IsRun, map-map, option_map, map-id, range_with_len, drop-drop, get_or-drop, map-append, picks_of, place_pick, kept}
use Rattle.sel_kernels.proofs.Common.{kept_from, All, pos, negsuc, IsTrue, ltb-true, count_true, pick, PickFits, IsPicked, IsNear, pick_of, is_within}
use Rattle.sel_kernels.proofs.Common.{all_within, found, All-map, all_at, unwrap_or, get_or-map}
use Rattle.std.proofs.Math.Bool.{and-true, and-false}
use Rattle.std.proofs.lemmas.List.{get_or-reverse, Sums.count_by-le-length, Elements.All-from_get_or}
use Rattle.sel_bits.{specs.Bits.trailing_zeros, specs.Bits.leading_ones, proofs.Zeros.leading_le}
use Rattle.sel_arrow.{specs.Masked.bool_rows, specs.Views.view_rows, proofs.ByteRows.length-byte_rows}
use Rattle.sel_filter.proofs.Selects.{all_kept, none_kept as nothing_kept, as_many_kept, count_true-append, select_split}
use Rattle.sel_kernels.specs.Trim.{KeepsAll}

-- ---- rows under a validity

pub select-map : {A B : Type 0} (f : A → B) → (xs : List A) (ms : List Bool) → select (map f xs) ms ≡ map f (select xs ms)
select-map f (x ∷ xs) (true ∷ ms) = ap (λ l. f x ∷ l) (select-map f xs ms)
select-map f (x ∷ xs) (false ∷ ms) = select-map f xs ms
select-map f xs ms = refl

select-hidden : (bs : List Bool) (vs : List Value) (ms : List Bool) → length bs ≡ length vs → select (hidden bs vs) ms ≡ hidden (select bs ms) (select vs ms)
select-hidden [] [] ms h = refl
select-hidden (b ∷ bs) (v ∷ vs) [] h = refl
select-hidden (b ∷ bs) (v ∷ vs) (true ∷ ms) h = ap (λ l. (if b then v else Null) ∷ l) (select-hidden bs vs ms (omega arith))
select-hidden (b ∷ bs) (v ∷ vs) (false ∷ ms) h = select-hidden bs vs ms (omega arith)
select-hidden bs vs ms h = absurd (omega (arith, h))

pub select-masked : (validity kept : Option Bits) (vs : List Value) (ms : List Bool) → Covers validity (length vs)
    → option_map (λ v. v.bits) kept ≡ option_map (λ v. select v.bits ms) validity → masked kept (select vs ms) ≡ select (masked validity vs) ms
select-masked None None vs ms covers is = refl
select-masked (Some validity) (Some kept) vs ms covers is = grind (arith, common_steps, select-hidden)
select-masked validity kept vs ms covers is = cc

-- A filtered validity is as long as the filtered rows.
pub kept_covers : {A : Type 0} → (validity kept : Option Bits) (xs : List A) (ms : List Bool) (n : ℕ) → Covers validity (length xs)
    → option_map (λ v. v.bits) kept ≡ option_map (λ v. select v.bits ms) validity → n ≡ length (select xs ms) → Covers kept n
kept_covers None None xs ms n covers is count = λ v there. cc
kept_covers (Some validity) (Some kept) xs ms n covers is count = λ v there.
    let same : kept.bits ≡ select validity.bits ms = cc in
    let here : kept ≡ v = cc in
    ap (λ (b : Bits). length b.bits) (sym here) ∙ ap (λ bs. length bs) same ∙ as_many_kept validity.bits xs ms (covers validity refl) ∙ sym count
kept_covers validity kept xs ms n covers is count = cc

-- The rows of a column with filtered values and a filtered validity are the filtered rows.
pub kept_rows : {A : Type 0} (f : A → Value) → (validity kept : Option Bits) (xs ys : List A) (ms : List Bool) → Covers validity (length xs)
    → option_map (λ v. v.bits) kept ≡ option_map (λ v. select v.bits ms) validity → ys ≡ select xs ms → masked kept (map f ys) ≡ select (masked validity (map f xs)) ms
kept_rows f validity kept xs ys ms covers is made =
    ap (λ l. masked kept (map f l)) made ∙ ap (masked kept) (sym (select-map f xs ms))
    ∙ select-masked validity kept (map f xs) ms (λ v there. rw length-map (covers v there)) is

pub kept_numbers : {T : Type 0} (number : T → ℤ) → (validity kept : Option Bits) (xs ys : List T) (ms : List Bool) → Covers validity (length xs)
    → option_map (λ v. v.bits) kept ≡ option_map (λ v. select v.bits ms) validity → ys ≡ select xs ms → number_rows number ys kept ≡ select (number_rows number xs validity) ms
kept_numbers number validity kept xs ys ms covers is made = kept_rows (λ x. Number (number x)) validity kept xs ys ms covers is made

pub kept_truths : (validity kept : Option Bits) (xs ys : List Bool) (ms : List Bool) → Covers validity (length xs)
    → option_map (λ v. v.bits) kept ≡ option_map (λ v. select v.bits ms) validity → ys ≡ select xs ms → bool_rows ys kept ≡ select (bool_rows xs validity) ms
kept_truths validity kept xs ys ms covers is made = kept_rows Truth validity kept xs ys ms covers is made

pub kept_view_rows : (buffers : List (List ℕ)) (validity kept : Option Bits) (xs ys : List View) (ms : List Bool) → Covers validity (length xs)
    → option_map (λ v. v.bits) kept ≡ option_map (λ v. select v.bits ms) validity → ys ≡ select xs ms → view_rows ys buffers kept ≡ select (view_rows xs buffers validity) ms
kept_view_rows buffers validity kept xs ys ms covers is made = kept_rows (view_value buffers) validity kept xs ys ms covers is made

-- What holds for each element holds for each selected one.
pub passed_kept : {A : Type 0} (p : A → Bool) → (xs : List A) (ms : List Bool) → list_all p xs ≡ true → list_all p (select xs ms) ≡ true
passed_kept p (x ∷ xs) (true ∷ ms) all = both (p x) (list_all p (select xs ms)) (and_first (p x) (list_all p xs) all) (passed_kept p xs ms (and_second (p x) (list_all p xs) all))
passed_kept p (x ∷ xs) (false ∷ ms) all = passed_kept p xs ms (and_second (p x) (list_all p xs) all)
passed_kept p xs ms all = refl

-- ---- rows under false bits at the ends

-- The rows under the first bits, which are false, are not selected.
pub front_dropped : {A : Type 0} → (xs : List A) (ms : List Bool) → length xs ≡ length ms → select (drop (leading_zeros ms) xs) (drop (leading_zeros ms) ms) ≡ select xs ms
front_dropped [] [] h = refl
front_dropped (x ∷ xs) (true ∷ ms) h = refl
front_dropped (x ∷ xs) (false ∷ ms) h = rw add-one (front_dropped xs ms (omega arith))
front_dropped xs ms h = absurd (omega (arith, h))

false_front : (ms : List Bool) (i : ℕ) → i < leading_zeros ms → get_or ms i false ≡ false
false_front (true ∷ ms) i lt = absurd (omega arith)
false_front (false ∷ ms) (suc i) lt = false_front ms i (omega arith)
false_front ms i lt = refl

-- The bits from n on are false.
abbrev EndsFalse : List Bool → ℕ → Type 0
EndsFalse ms n = (i : ℕ) → n ≤ i → get_or ms i false ≡ false

none_kept : {A : Type 0} → (xs : List A) (ms : List Bool) → EndsFalse ms 0 → select xs ms ≡ []
none_kept (x ∷ xs) (true ∷ ms) ends = let first = ends 0 (omega arith) in cc
none_kept (x ∷ xs) (false ∷ ms) ends = none_kept xs ms (λ i le. ends (suc i) (omega arith))
none_kept xs ms ends = refl

front_kept : {A : Type 0} → (xs : List A) (ms : List Bool) (n : ℕ) → EndsFalse ms n → select (take n xs) (take n ms) ≡ select xs ms
front_kept xs ms zero ends = sym (none_kept xs ms ends)
front_kept (x ∷ xs) (true ∷ ms) (suc n) ends = ap (λ l. x ∷ l) (front_kept xs ms n (λ i le. ends (suc i) (omega arith)))
front_kept (x ∷ xs) (false ∷ ms) (suc n) ends = front_kept xs ms n (λ i le. ends (suc i) (omega arith))
front_kept xs ms (suc n) ends = refl

false_end : (ms : List Bool) → EndsFalse ms (length ms - trailing_zeros ms)
false_end ms i le =
    ⊎_elim
    (λ inside.
    let back : length ms - 1 - (length ms - 1 - i) ≡ i = omega arith in
    let turned : get_or (reverse ms) (length ms - 1 - i) false ≡ get_or ms i false = get_or-reverse ms (length ms - 1 - i) false (omega arith) ∙ ap (λ k. get_or ms k false) back in
    sym turned ∙ false_front (reverse ms) (length ms - 1 - i) (omega arith))
    (λ past. get_or_past ms i false past)
    (cases_lt i (length ms))

-- The rows under the last bits, which are false, are not selected.
pub end_dropped : {A : Type 0} → (xs : List A) (ms : List Bool) → select (take (length ms - trailing_zeros ms) xs) (take (length ms - trailing_zeros ms) ms) ≡ select xs ms
end_dropped xs ms = front_kept xs ms (length ms - trailing_zeros ms) (false_end ms)

-- A mask without the false bits at its ends.
abbrev pub trim : List Bool → List Bool
trim ms = take (length (drop (leading_zeros ms) ms) - trailing_zeros (drop (leading_zeros ms) ms)) (drop (leading_zeros ms) ms)

length-trim : (ms : List Bool) → length (trim ms) ≡ length (drop (leading_zeros ms) ms) - trailing_zeros (drop (leading_zeros ms) ms)
length-trim ms = omega (arith, length-take (length (drop (leading_zeros ms) ms) - trailing_zeros (drop (leading_zeros ms) ms)) (drop (leading_zeros ms) ms))

pub trimmed_within : (ms : List Bool) → leading_zeros ms + length (trim ms) ≤ length ms
trimmed_within ms = omega (arith, leading_le ms, length-drop (leading_zeros ms) ms, length-trim ms)

pub trimmed_kept : {A : Type 0} → (xs : List A) (ms : List Bool) → length xs ≡ length ms → select (take (length (trim ms)) (drop (leading_zeros ms) xs)) (trim ms) ≡ select xs ms
trimmed_kept xs ms long = grind (arith, common_steps, length-trim, end_dropped, front_dropped)

-- A trimmed mask is a part of the mask.
pub trimmed_part : (ms : List Bool) → trim ms ≡ take (length (trim ms)) (drop (leading_zeros ms) ms)
trimmed_part ms = ap (λ n. take n (drop (leading_zeros ms) ms)) (sym (length-trim ms))

-- ---- nulls

nulls_kept : (n : ℕ) (ms : List Bool) → replicate (length (select (replicate n Null) ms)) Null ≡ select (replicate n Null) ms
nulls_kept (suc n) (true ∷ ms) = ap (λ l. Null ∷ l) (nulls_kept n ms)
nulls_kept (suc n) (false ∷ ms) = nulls_kept n ms
nulls_kept n ms = refl

pub kept_null_rows : (n : ℕ) (ms : List Bool) → length (replicate n Null) ≡ length ms → select (replicate n Null) ms ≡ replicate (count_by (λ b. b) ms) Null
kept_null_rows n ms long = sym (ap (λ k. replicate k Null) (sym (length-select (replicate n Null) ms long)) ∙ nulls_kept n ms)

pub few_nulls : (n : ℕ) (ms : List Bool) → n ≤ max_rows → length (replicate n Null) ≡ length ms → count_by (λ b. b) ms ≤ max_rows
few_nulls n ms few long = omega (arith, count_by-le-length (λ (b : Bool). b) ms, length-replicate n Null, long)

pub ruleset kept_nulls = (kept_null_rows, few_nulls, length-replicate)

pub ruleset kept_views = (kept_view_rows, kept_covers, few_kept, passed_kept, length-view_rows)

pub ruleset kept_columns = (kept_numbers, kept_truths, kept_covers, few_kept, length-number_rows, length-truth_rows)

-- ---- a mask of rows

effective_mask-hidden : (bs bits : List Bool) → length bs ≡ length bits → map is_true (hidden bs (map Truth bits)) ≡ zip_with (λ x y. x && y) bits bs
effective_mask-hidden [] [] h = refl
effective_mask-hidden (true ∷ bs) (x ∷ bits) h = cc (and-true x, effective_mask-hidden bs bits (omega arith))
effective_mask-hidden (false ∷ bs) (x ∷ bits) h = cc (and-false x, effective_mask-hidden bs bits (omega arith))
effective_mask-hidden bs bits h = absurd (omega (arith, h))

-- The effective mask of a boolean column.
pub effective_mask-bools : (bits : List Bool) (validity : Option Bits) (v : Bits) → validity ≡ Some v → Covers validity (length bits) → effective_mask (bool_rows bits validity) ≡ zip_with (λ x y. x && y) bits v.bits
effective_mask-bools bits validity v is covers = ap (λ o. effective_mask (bool_rows bits o)) is ∙ effective_mask-hidden v.bits bits (covers v is)

-- Without a validity it is the values of the column.
pub in_force-all : (bits : List Bool) (validity : Option Bits) → validity ≡ None → effective_mask (bool_rows bits validity) ≡ bits
in_force-all bits validity is = ap (λ o. effective_mask (bool_rows bits o)) is ∙ map-map is_true Truth bits ∙ map-id bits

pub length-in_force : (rows : List Value) → length (effective_mask rows) ≡ length rows
length-in_force rows = length-map rows is_true

-- ---- consecutive rows

-- A list of true entries.
all_true : (bs : List Bool) → count_by (λ b. b) bs ≡ length bs → bs ≡ replicate (length bs) true
all_true [] all = refl
all_true (true ∷ bs) all = ap (λ l. true ∷ l) (all_true bs (omega (arith, all, sum_by-cons (λ b. cond b 1 0) true bs)))
all_true (false ∷ bs) all = absurd (omega (arith, all, sum_by-cons (λ b. cond b 1 0) false bs, count_by-le-length (λ (b : Bool). b) bs))

count_all : (n : ℕ) → count_by (λ b. b) (replicate n true) ≡ n
count_all zero = refl
count_all (suc n) = omega (arith, count_all n, sum_by-cons (λ b. cond b 1 0) true (replicate n true))

-- A trimmed mask of true entries is a run of the mask, and has all of its true entries.
pub run_of_trimmed : (mask : List Bool) (leading : ℕ) (rest : List Bool) → KeepsAll mask leading rest → leading + length rest ≤ length mask → rest ≡ take (length rest) (drop leading mask)
    → count_by (λ b. b) rest ≡ length rest → IsRun mask leading (count_by (λ b. b) mask)
run_of_trimmed mask leading rest keeps within part all =
    let nulls = replicate (length mask) Null in
    let long = length-replicate (length mask) Null in
    let under : take (length rest) (drop leading nulls) ≡ select nulls mask =
    sym (all_kept (take (length rest) (drop leading nulls)) rest (omega (arith, within, long, length-take (length rest) (drop leading nulls), length-drop leading nulls)) all) ∙ keeps nulls long in
    let count : length rest ≡ count_by (λ b. b) mask =
    omega (arith, within, long, ap length under, length-take (length rest) (drop leading nulls), length-drop leading nulls, length-select nulls mask long) in
    subst (IsRun mask leading) count (within, sym part ∙ all_true rest all)

pub run_of_none : (mask : List Bool) (count : ℕ) → count ≡ 0 → IsRun mask 0 count
run_of_none mask count none = subst (IsRun mask 0) (sym none) (omega arith, refl)

pub run_of_all : (mask : List Bool) (count : ℕ) → count ≡ length mask → count ≡ count_by (λ b. b) mask → IsRun mask 0 count
run_of_all mask count all counted = grind (arith, common_steps, take_all, all_true)

-- The rows that a mask of consecutive true entries selects.
pub run_selected : {A : Type 0} (xs : List A) (mask : List Bool) (first : ℕ) → length xs ≡ length mask → IsRun mask first (count_by (λ b. b) mask)
    → take (count_by (λ b. b) mask) (drop first xs) ≡ select xs mask
run_selected {A} xs mask first long run =
    let n = count_by (λ b. b) mask in
    let ys = drop first xs in
    let ms = drop first mask in
    let equal : length ys ≡ length ms = omega (arith, long, length-drop first xs, length-drop first mask) in
    let parted : count_by (λ b. b) (take first mask) + count_by (λ b. b) ms ≡ n = sym (count_true-append (take first mask) ms) ∙ ap (count_by (λ b. b)) (take-append-drop first mask) in
    let inner : count_by (λ b. b) (take n ms) + count_by (λ b. b) (drop n ms) ≡ count_by (λ b. b) ms = sym (count_true-append (take n ms) (drop n ms)) ∙ ap (count_by (λ b. b)) (take-append-drop n ms) in
    let ones : count_by (λ b. b) (take n ms) ≡ n = ap (count_by (λ b. b)) run.1 ∙ count_all n in
    let size : length (take n ms) ≡ n = ap length run.1 ∙ length-replicate n true in
    let before = nothing_kept (take first xs) (take first mask) (omega (arith, long, length-take first xs, length-take first mask)) (omega (arith, parted, inner, ones)) in
    let behind = nothing_kept (drop n ys) (drop n ms) (omega (arith, equal, length-drop n ys, length-drop n ms)) (omega (arith, parted, inner, ones)) in
    let middle = all_kept (take n ys) (take n ms) (omega (arith, equal, length-take n ys, length-take n ms)) (ones ∙ sym size) in
    sym (append-nil (take n ys)) ∙ ap (λ l. l ++ []) (sym middle) ∙ ap (λ l. select (take n ys) (take n ms) ++ l) behind ∙ select_split ys ms n equal ∙ ap (λ l. l ++ select ys ms) before ∙ select_split xs mask first long

pub ruleset row_lengths = (length-number_rows, length-truth_rows, length-view_rows, length-byte_rows)

pub ruleset effective_masks = (in_force-all, effective_mask-bools, length-in_force)

-- ---- several equal bits at once

zeros_step : (l : List Bool) (at : ℕ) → kept_from at l ≡ kept_from (at + leading_zeros l) (drop (leading_zeros l) l)
zeros_step [] at = refl
zeros_step (true ∷ l) at = let none : at + 0 ≡ at = omega arith in rw none refl
zeros_step (false ∷ l) at = grind (arith, common_steps, add-one, (zeros_step l (at + 1)))

ones_step : (l : List Bool) (at : ℕ) → kept_from at l ≡ range_with_len at (leading_ones l) ++ kept_from (at + leading_ones l) (drop (leading_ones l) l)
ones_step [] at = refl
ones_step (false ∷ l) at = let none : at + 0 ≡ at = omega arith in rw none refl
ones_step (true ∷ l) at = grind (arith, common_steps, add-one, (ones_step l (at + 1)))

some_ones : (l : List Bool) (at : ℕ) → 0 < length (kept_from at l) → 0 < leading_ones (drop (leading_zeros l) l)
some_ones [] at h = absurd (omega (arith, h))
some_ones (true ∷ l) at h = omega arith
some_ones (false ∷ l) at h = subst (λ k. 0 < leading_ones (drop k (false ∷ l))) (sym (add-one (leading_zeros l))) (some_ones l (at + 1) h)

-- The positions that are left after one more run, which is not empty if there is a position.
module _ (bits : List Bool) (at z n : ℕ) (zeros : z ≡ leading_zeros (drop at bits)) (ones : n ≡ leading_ones (drop (at + z) bits)) where
  pub run_kept : map place_pick (kept_from at (drop at bits)) ≡ picks_of 0 (at + z) n ++ map place_pick (kept_from (at + z + n) (drop (at + z + n) bits))
  run_kept =
      let skipped = zeros_step (drop at bits) at in
      let passed = ones_step (drop (at + z) bits) (at + z) in
      ap (map place_pick) (rw (← zeros, drop-drop) at skipped ∙ rw (← ones, drop-drop) at passed)
      ∙ map-append place_pick (range_with_len (at + z) n) (kept_from (at + z + n) (drop (at + z + n) bits))

  pub run_some : 0 < length (map place_pick (kept_from at (drop at bits))) → 0 < n
  run_some left = grind (arith, common_steps, drop-drop, at, bits, some_ones, length-map)

-- The first of the positions that are left, and those after it.
first_row : (l : List Bool) (at : ℕ) → 0 < length (kept_from at l) → kept_from at l ≡ (at + leading_zeros l) ∷ kept_from (at + leading_zeros l + 1) (drop (leading_zeros l + 1) l)
first_row [] at h = absurd (omega (arith, h))
first_row (true ∷ l) at h = let none : at + 0 ≡ at = omega arith in rw none refl
first_row (false ∷ l) at h = grind (arith, common_steps, add-one, (first_row l (at + 1) h))

first_below : (l : List Bool) (at : ℕ) → 0 < length (kept_from at l) → leading_zeros l < length l
first_below [] at h = absurd (omega (arith, h))
first_below (true ∷ l) at h = omega arith
first_below (false ∷ l) at h = omega (arith, first_below l (at + 1) h)

module _ (bits : List Bool) (at z : ℕ) (zeros : z ≡ leading_zeros (drop at bits)) (left : 0 < length (map place_pick (kept_from at (drop at bits)))) where
  pub row_kept : map place_pick (kept_from at (drop at bits)) ≡ picks_of 0 (at + z) 1 ++ map place_pick (kept_from (at + z + 1) (drop (at + z + 1) bits))
  row_kept = grind (arith, common_steps, drop-drop, length-map, (first_row (drop at bits) at))

  pub row_within : at + z + 1 ≤ length bits
  row_within = omega (arith, zeros, length-drop at bits, first_below (drop at bits) at (omega (arith, left, length-map (kept_from at (drop at bits)) place_pick)))

-- ---- each position is in bounds

kept_from_below : (n : ℕ) (ms : List Bool) (k : ℕ) → k < length (kept_from n ms) → get_or (kept_from n ms) k 0 < n + length ms
kept_from_below n [] k h = absurd (omega arith)
kept_from_below n (true ∷ ms) zero h = omega arith
kept_from_below n (true ∷ ms) (suc k) h = omega (arith, kept_from_below (n + 1) ms k (omega arith))
kept_from_below n (false ∷ ms) k h = omega (arith, kept_from_below (n + 1) ms k h)

pub kept_below : (ms : List Bool) (k : ℕ) → k < length (kept ms) → get_or (kept ms) k 0 < length ms
kept_below ms k h = omega (arith, kept_from_below 0 ms k h)

-- ---- the filtered rows are those at the positions

pub first_dropped : {A : Type 0} → (all : List A) (x : A) (xs : List A) (n : ℕ) (d : A) → drop n all ≡ x ∷ xs → get_or all n d ≡ x
first_dropped all x xs n d is = grind (arith, common_steps, get_or-drop)

pub rest_dropped : {A : Type 0} → (all : List A) (x : A) (xs : List A) (n : ℕ) → drop n all ≡ x ∷ xs → drop (n + 1) all ≡ xs
rest_dropped all x xs n is = sym (drop-drop 1 n all) ∙ ap (drop 1) is

selected_from : {A : Type 0} → (all xs : List A) (ms : List Bool) (n : ℕ) (d : A) → drop n all ≡ xs → length xs ≡ length ms → select xs ms ≡ map (λ i. get_or all i d) (kept_from n ms)
selected_from all [] [] n d is h = refl
selected_from all (x ∷ xs) (true ∷ ms) n d is h = grind (arith, common_steps, first_dropped, rest_dropped, (selected_from all xs ms (n + 1) d (rest_dropped all x xs n is) (omega arith)))
selected_from all (x ∷ xs) (false ∷ ms) n d is h = selected_from all xs ms (n + 1) d (rest_dropped all x xs n is) (omega arith)
selected_from all xs ms n d is h = absurd (omega (arith, h))

pub selected : {A : Type 0} → (xs : List A) (ms : List Bool) (d : A) → length xs ≡ length ms → select xs ms ≡ map (λ i. get_or xs i d) (kept ms)
selected xs ms d h = selected_from xs xs ms 0 d refl h

-- ---- row references to the positions

-- Gathering the positions that a mask selects equals filtering by the mask.
pub picked_kept : (d : Value) (xs : List Value) (ms : List Bool) → length xs ≡ length ms → pick d (xs ∷ []) (map place_pick (kept ms)) ≡ select xs ms
picked_kept d xs ms long = map-map (found d (xs ∷ [])) place_pick (kept ms) ∙ sym (selected xs ms d long)

-- These positions are in bounds.
pub kept_fit : (xs : List Value) (ms : List Bool) → length xs ≡ length ms → All (PickFits (xs ∷ [])) (map place_pick (kept ms))
kept_fit xs ms long =
    All-map (PickFits (xs ∷ [])) place_pick (kept ms) (All-from_get_or (λ place. place < length xs) (kept ms) 0 (λ k h. omega (arith, kept_below ms k h, long)))

-- None of their row references is null, and each is small.
pub kept_picked : (places : List ℕ) → All IsPicked (map place_pick places)
kept_picked places = All-map IsPicked place_pick places (λ k d h. tt)

pub kept_near : (ms : List Bool) → length ms ≤ max_rows → All IsNear (map place_pick (kept ms))
kept_near ms few =
    All-map IsNear place_pick (kept ms) (All-from_get_or (λ place. IsNear (place_pick place)) (kept ms) 0
    (λ k h p is. let place : get_or (kept ms) k 0 ≡ p.1 = ap (λ o. (unwrap_or {T = ℕ × ℕ} o (0, 0)).1) is in omega (arith, kept_below ms k h, place, few)))

-- The row references of indices in bounds are in bounds.
pub within_fit : (xs indices : List Value) → IsTrue (all_within (length xs) indices) → All (PickFits (xs ∷ [])) (map pick_of indices)
within_fit xs indices h = All-map (PickFits (xs ∷ [])) pick_of indices (λ k d below. one (get_or indices k d) (all_at (is_within (length xs)) indices k d h below))
  where
    one : (v : Value) → is_within (length xs) v ≡ true → PickFits (xs ∷ []) (pick_of v)
    one (Number (pos i)) e = ltb-true i (length xs) e
    one (Number (negsuc i)) e = absurd (cc e)
    one _ e = tt

-- Indices without a null have no null row reference.
pub all_picked : (indices : List ℕ) → All IsPicked (map pick_of (number_rows pos indices None))
all_picked indices =
    All-map IsPicked pick_of (number_rows pos indices None) (All-map (λ v. IsPicked (pick_of v)) (λ x. Number (pos x)) indices (λ k d h. tt))

-- There are as many positions as true bits.
pub count_kept : (ms : List Bool) → length (kept ms) ≡ count_true ms
count_kept ms = from 0 ms
  where
    from : (n : ℕ) (ms : List Bool) → length (kept_from n ms) ≡ count_true ms
    from n [] = refl
    from n (true ∷ ms) = omega (arith, from (n + 1) ms, sum_by-cons (λ b. cond b 1 0) true ms)
    from n (false ∷ ms) = omega (arith, from (n + 1) ms, sum_by-cons (λ b. cond b 1 0) false ms)

pub kept_long : (ms : List Bool) → length (map place_pick (kept ms)) ≡ count_true ms
kept_long ms = length-map (kept ms) place_pick ∙ count_kept ms

pub kept_few : (ms : List Bool) → count_true ms ≤ length ms
kept_few ms = count_by-le-length (λ b. b) ms

pub ruleset taken_places = (length-map, get_or-map, all_picked)
