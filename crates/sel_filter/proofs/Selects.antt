-- The elements that a mask selects.
use Rattle.std.proofs.lemmas.Grind.{common_steps}
use Rattle.sel_filter.proofs.Common.{◌≡◌, ℕ, zero, suc, ◌+◌, ◌≤◌, Bool, true, false, List, [], ◌∷◌, ◌++◌, length, take, drop, replicate, refl, ap, sym, ◌∙◌}
use Rattle.sel_filter.proofs.Common.{arith, cond, length-take, take-add, take_all, append_assoc, count_by-le-length, count_true, select, nil_from_length}
use Rattle.std.proofs.lemmas.List.{take-append-drop}
use Rattle.std.specs.Prelude.{count_by}
use Rattle.std.proofs.lemmas.List.Sums.{sum_by-cons, sum_by-append}

-- ---- the number of selected elements

pub length-select : {A : Type 0} → (xs : List A) (ms : List Bool) → length xs ≡ length ms → length (select xs ms) ≡ count_by (λ b. b) ms
length-select (x ∷ xs) (true ∷ ms) h = omega (arith, length-select xs ms (omega arith), sum_by-cons (λ b. cond b 1 0) true ms)
length-select (x ∷ xs) (false ∷ ms) h = omega (arith, length-select xs ms (omega arith), sum_by-cons (λ b. cond b 1 0) false ms)
length-select xs ms h = grind (arith, common_steps)

pub few_kept : {A : Type 0} → (xs : List A) (ms : List Bool) → length (select xs ms) ≤ length xs
few_kept (x ∷ xs) (true ∷ ms) = omega (arith, few_kept xs ms)
few_kept (x ∷ xs) (false ∷ ms) = omega (arith, few_kept xs ms)
few_kept xs ms = omega arith

-- A mask selects equally many elements of lists of equal length.
pub as_many_kept : {A B : Type 0} → (xs : List A) (ys : List B) (ms : List Bool) → length xs ≡ length ys → length (select xs ms) ≡ length (select ys ms)
as_many_kept (x ∷ xs) (y ∷ ys) (true ∷ ms) h = ap suc (as_many_kept xs ys ms (omega arith))
as_many_kept (x ∷ xs) (y ∷ ys) (false ∷ ms) h = as_many_kept xs ys ms (omega arith)
as_many_kept xs ys ms h = grind (arith, common_steps)

-- A mask with only true entries selects all elements.
pub all_kept : {A : Type 0} → (xs : List A) (ms : List Bool) → length xs ≡ length ms → count_by (λ b. b) ms ≡ length ms → select xs ms ≡ xs
all_kept (x ∷ xs) (true ∷ ms) h count = ap (λ l. x ∷ l) (all_kept xs ms (omega arith) (omega (arith, count, sum_by-cons (λ b. cond b 1 0) true ms)))
all_kept xs ms h count = grind (arith, count_by-le-length)

-- A mask without a true entry selects no element.
pub none_kept : {A : Type 0} → (xs : List A) (ms : List Bool) → length xs ≡ length ms → count_by (λ b. b) ms ≡ 0 → [] ≡ select xs ms
none_kept xs ms h count = sym (nil_from_length (select xs ms) (length-select xs ms h ∙ count))

-- ---- concatenated lists

pub count_cons : (b : Bool) (bs : List Bool) → count_true (b ∷ bs) ≡ cond b 1 0 + count_true bs
count_cons b bs = sum_by-cons (λ x. cond x 1 0) b bs

pub count_true-append : (ms ns : List Bool) → count_true (ms ++ ns) ≡ count_true ms + count_true ns
count_true-append ms ns = sum_by-append (λ x. cond x 1 0) ms ns

pub count_true_none : (k : ℕ) → count_true (replicate k false) ≡ 0
count_true_none zero = refl
count_true_none (suc k) = omega (arith, count_cons false (replicate k false), count_true_none k)

pub select-append : {A : Type 0} → (xs : List A) (ms : List Bool) (ys : List A) (ns : List Bool) → length xs ≡ length ms → select (xs ++ ys) (ms ++ ns) ≡ select xs ms ++ select ys ns
select-append (x ∷ xs) (true ∷ ms) ys ns long = ap (λ l. x ∷ l) (select-append xs ms ys ns (omega arith))
select-append (x ∷ xs) (false ∷ ms) ys ns long = select-append xs ms ys ns (omega arith)
select-append xs ms ys ns long = grind (arith, common_steps)

pub select_none : {A : Type 0} → (xs : List A) (k : ℕ) → select xs (replicate k false) ≡ []
select_none (x ∷ xs) (suc k) = select_none xs k
select_none xs k = cc

-- False entries at the end of a mask select nothing.
pub select_front : {A : Type 0} → (xs : List A) (ms : List Bool) (k : ℕ) → select xs (ms ++ replicate k false) ≡ select (take (length ms) xs) ms
select_front xs [] k = select_none xs k
select_front [] (m ∷ ms) k = refl
select_front (x ∷ xs) (true ∷ ms) k = ap (λ l. x ∷ l) (select_front xs ms k)
select_front (x ∷ xs) (false ∷ ms) k = select_front xs ms k

-- The selected elements of a part and of the rest.
pub select_split : {A : Type 0} (xs : List A) (ms : List Bool) (k : ℕ) → length xs ≡ length ms → select (take k xs) (take k ms) ++ select (drop k xs) (drop k ms) ≡ select xs ms
select_split xs ms k long =
    sym (select-append (take k xs) (take k ms) (drop k xs) (drop k ms) (omega (arith, length-take k xs, length-take k ms)))
    ∙ (λ i. select (take-append-drop k xs i) (take-append-drop k ms i))

-- The selected elements of a part follow those before it.
pub select_part : {A : Type 0} (xs : List A) (ms : List Bool) (at count : ℕ) → length xs ≡ length ms
    → select (take (at + count) xs) (take (at + count) ms) ≡ select (take at xs) (take at ms) ++ select (take count (drop at xs)) (take count (drop at ms))
select_part xs ms at count long = grind (arith, take-add, select-append, length-take)

-- The same after the elements of another list.
pub select_more : {A : Type 0} (front old new xs : List A) (ms : List Bool) (at count : ℕ) → length xs ≡ length ms → old ≡ front ++ select (take at xs) (take at ms)
    → new ≡ old ++ select (take count (drop at xs)) (take count (drop at ms)) → new ≡ front ++ select (take (at + count) xs) (take (at + count) ms)
select_more front old new xs ms at count long was is = grind (arith, append_assoc, select_part)

-- At the end of the mask all elements are selected.
pub select_end : {A : Type 0} (xs : List A) (ms : List Bool) (n : ℕ) → length xs ≡ length ms → length ms ≤ n → select (take n xs) (take n ms) ≡ select xs ms
select_end xs ms n long past = λ i. select (take_all n xs (omega (arith, long, past)) i) (take_all n ms past i)

pub ruleset selected = (none_kept, all_kept, select_split)
