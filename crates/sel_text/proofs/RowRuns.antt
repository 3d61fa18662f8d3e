-- Rows that are repeated, and the rows that an iterator over them has left.
use Rattle.std.proofs.Common.{◌≡◌, Bor, ℕ, zero, suc, ◌+◌, ◌-◌, ◌*◌, ◌<◌, ◌≤◌, List, [], ◌∷◌, ◌++◌, length, map, take, drop, get_or, replicate, refl, ap, sym}
use Rattle.std.proofs.Common.{◌∙◌, arith, append_assoc, length-append, length-drop}
use Rattle.sel_text.proofs.Common.{flat_map, slice_range, append-nil, drop_more, length-replicate, replicate-append-replicate, length-map, map-append, take_all}
use Rattle.sel_text.proofs.Common.{take_more, Value, Null, block_in, item_value, rows_read, all_items, repeated, rows_repeated, Item}
use Rattle.std.proofs.{Math.ListN.get_or-append, Math.Seq.drop-append-add, lemmas.List.get_or-replicate, lemmas.List.Concat.flat_map-append}
use Rattle.sel_text.specs.declared.row_runs.RowRun.{RowRun}

-- ---- the rows of runs

pub map_same : {A B : Type 0} (f : A → B) (n : ℕ) (x : A) → map f (replicate n x) ≡ replicate n (f x)
map_same f zero x = refl
map_same f (suc n) x = ap (λ l. f x ∷ l) (map_same f n x)

-- The rows of one more run.
pub rows_with : (runs : List RowRun) (run : RowRun) → rows_repeated (runs ++ run ∷ []) ≡ rows_repeated runs ++ replicate run.times (item_value run.item.now)
rows_with runs run =
    let value = λ (item : Bor Item). item_value item.now in
    ap rows_read (flat_map-append (λ (r : RowRun). replicate r.times r.item) runs (run ∷ []) ∙ ap (λ l. all_items runs ++ l) (append-nil (replicate run.times run.item)))
    ∙ map-append value (all_items runs) (replicate run.times run.item) ∙ ap (λ l. rows_repeated runs ++ l) (map_same value run.times run.item)

pub rows_more : (runs : List RowRun) (i : ℕ) (run : RowRun) → i < length runs → run ≡ get_or runs i run →
    (get_or runs i run ≡ get_or runs i run) × (rows_repeated (take (i + 1) runs) ≡ rows_repeated (take i runs) ++ replicate run.times (item_value run.item.now))
rows_more runs i run inside is = (refl, ap rows_repeated (take_more runs i run inside ∙ ap (λ r. take i runs ++ r ∷ []) (sym is)) ∙ rows_with (take i runs) run)

pub count_rows : (runs : List RowRun) → length (rows_repeated runs) ≡ length (all_items runs)
count_rows runs = length-map (all_items runs) (λ (item : Bor Item). item_value item.now)

-- ---- the rows that are left

-- The next of the entries that are left, from entry k on.
pub record IsNext {A : Type 0} (xs : List A) (k : ℕ) (x : A) (rest : List A) : Type 0 where
  pub inside : k < length xs
  pub is : x ≡ get_or xs k x
  pub others : rest ≡ drop (k + 1) xs

pub next_of : {A : Type 0} (xs : List A) (k : ℕ) (x : A) (rest : List A) → drop k xs ≡ x ∷ rest → IsNext xs k x rest
next_of xs k x rest e =
    let inside : k < length xs = omega (arith, length-drop k xs, ap length e) in
    let split = sym (drop_more xs k x inside) ∙ e in
    record { inside = inside; is = cc; others = cc }

past_run : {A : Type 0} (t used : ℕ) (x : A) (xs : List A) → t ≤ used → drop used (replicate t x ++ xs) ≡ drop (used - t) xs
past_run t used x xs few =
    let count : used ≡ length (replicate t x) + (used - t) = omega (arith, length-replicate t x) in
    ap (λ n. drop n (replicate t x ++ xs)) count ∙ drop-append-add (replicate t x) xs (used - t)

in_run : {A : Type 0} (t used : ℕ) (x : A) (xs : List A) → used < t → drop used (replicate t x ++ xs) ≡ x ∷ drop (used + 1) (replicate t x ++ xs)
in_run t used x xs more =
    let some : used < length (replicate t x) = rw length-replicate more in
    let inside : used < length (replicate t x ++ xs) = omega (arith, some, length-append (replicate t x) xs) in
    drop_more (replicate t x ++ xs) used x inside ∙ ap (λ y. y ∷ drop (used + 1) (replicate t x ++ xs)) (get_or-append (replicate t x) xs x used some ∙ get_or-replicate t used x x more)

-- After a run that is used up.
pub left_past : (runs : List RowRun) (d e : RowRun) (used : ℕ) → 0 < length runs → (get_or runs 0 d).times ≤ used →
    drop used (all_items runs) ≡ drop (used - (get_or runs 0 e).times) (all_items (slice_range runs 1 (length runs)))
left_past [] d e used some few = absurd (omega (arith, some))
left_past (r ∷ runs) d e used some few =
    let count : length runs ≡ suc (length runs) - 1 = omega arith in
    past_run r.times used r.item (all_items runs) few ∙ ap (λ l. drop (used - r.times) (all_items l)) (sym (take_all (length runs) runs (omega arith)) ∙ ap (λ n. take n runs) count)

-- In a run that is not.
pub left_in : (runs : List RowRun) (d e : RowRun) (used : ℕ) → 0 < length runs → used < (get_or runs 0 d).times →
    drop used (all_items runs) ≡ (get_or runs 0 e).item ∷ drop (used + 1) (all_items runs)
left_in [] d e used some more = absurd (omega (arith, some))
left_in (r ∷ runs) d e used some more = in_run r.times used r.item (all_items runs) more

pub some_runs : (runs : List RowRun) (used : ℕ) → 0 < length (drop used (all_items runs)) → 0 < length runs
some_runs [] used some = absurd (omega (arith, some, length-drop used (all_items [])))
some_runs (r ∷ runs) used some = omega arith

-- ---- repeated rows of fixed-size lists

repeated_front : {A : Type 0} (n : ℕ) (xs : List A) → repeated n xs ++ xs ≡ xs ++ repeated n xs
repeated_front zero xs = sym (append-nil xs)
repeated_front (suc n) xs = ap (λ l. l ++ xs) (repeated_front n xs) ∙ append_assoc xs (repeated n xs) xs

pub joined_same : {A B : Type 0} (f : A → List B) (n : ℕ) (x : A) → flat_map f (replicate n x) ≡ repeated n (f x)
joined_same f zero x = refl
joined_same f (suc n) x = ap (λ l. f x ++ l) (joined_same f n x) ∙ sym (repeated_front n (f x))

-- The entries of null rows are nulls.
pub null_blocks : (size times : ℕ) (v : Value) → block_in size v ≡ replicate size Null → flat_map (block_in size) (replicate times v) ≡ replicate (times * size) Null
null_blocks size zero v is = ap (λ n. replicate n Null) (let n : 0 ≡ 0 * size = omega arith in n)
null_blocks size (suc times) v is =
    let count : size + times * size ≡ suc times * size = omega arith in
    ap (λ l. l ++ flat_map (block_in size) (replicate times v)) is ∙ ap (λ l. replicate size Null ++ l) (null_blocks size times v is) ∙ replicate-append-replicate size (times * size) Null ∙ ap (λ n. replicate n Null) count

-- How the rows of runs grow.
pub ruleset runs_more = (rows_with, rows_more, map_same, map-append, flat_map-append, joined_same, null_blocks)
