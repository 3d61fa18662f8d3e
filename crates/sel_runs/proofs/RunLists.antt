-- Runs, their row references, and the rows that these refer to.
use Rattle.sel_runs.proofs.Common.{common_steps, ◌≡◌, ◌-◌, All, subst, ℕ, ◌<◌, ◌≤◌, ◌+◌, List, [], ◌∷◌, ◌++◌, map, length, replicate, get_or, take, drop, refl, sym, ap}
use Rattle.sel_runs.proofs.Common.{◌∙◌, arith, append_assoc, length-append, slice_set, Option, Some, None, is_none, false, suc, zero, zero-add, length-map}
use Rattle.sel_runs.proofs.Common.{take-append-le, drop-append-le, take_all, drop_all, take_more, drop_more, take-append-drop, replicate-append-replicate}
use Rattle.sel_runs.proofs.Common.{map-append, length-replicate, append-nil, length-map-range_with_len, get_or-map-range_with_len, All-append, All-drop}
use Rattle.sel_runs.proofs.Common.{All-get_or, All-head, All-map, All-nil, All-tail, All-take, range_with_len, Run, found, pick, PickFits, IsPicked, expand}
use Rattle.sel_runs.proofs.Common.{unrolled, unrolled_from, picks_of}
use Rattle.sel_runs.proofs.Gathers.{map-replicate, none_left}

-- ---- concatenated runs

pub expand-append : (a b : List Run) → expand (a ++ b) ≡ expand a ++ expand b
expand-append [] b = refl
expand-append (r ∷ a) b = ap (λ l. unrolled r ++ l) (expand-append a b) ∙ sym (append_assoc (unrolled r) (expand a) (expand b))

pub expand-one : (r : Run) → expand (r ∷ []) ≡ unrolled r
expand-one r = append-nil (unrolled r)

pub expand-push : (a : List Run) (r : Run) → expand (a ++ r ∷ []) ≡ expand a ++ unrolled r
expand-push a r = expand-append a (r ∷ []) ∙ ap (λ l. expand a ++ l) (expand-one r)

pub length-unrolled_from : (s : Option ℕ) (a n : ℕ) → length (unrolled_from s a n) ≡ n
length-unrolled_from None a n = length-replicate n None
length-unrolled_from (Some s) a n = length-map-range_with_len (λ i. Some (s, i)) a n

pub length-unrolled : (r : Run) → length (unrolled r) ≡ r.len
length-unrolled r = length-unrolled_from r.source r.start r.len

range-append : (n m a b : ℕ) → a + n ≡ b → range_with_len a (n + m) ≡ range_with_len a n ++ range_with_len b m
range-append zero m a b e = grind (arith, common_steps, zero-add)
range-append (suc n) m a b e =
    let more : suc n + m ≡ suc (n + m) = omega arith in
    let next : (a + 1) + n ≡ b = omega (arith, e) in
    rw more (ap (λ l. a ∷ l) (range-append n m (a + 1) b next))

pub picks_of-append : (s a b n m : ℕ) → a + n ≡ b → picks_of s a (n + m) ≡ picks_of s a n ++ picks_of s b m
picks_of-append s a b n m e =
    ap (map (λ i. Some (s, i))) (range-append n m a b e) ∙ map-append (λ i. Some (s, i)) (range_with_len a n) (range_with_len b m)

nulls-append : (n m : ℕ) → replicate (n + m) (let none : Option (ℕ × ℕ) = None in none) ≡ replicate n None ++ replicate m None
nulls-append n m = sym (replicate-append-replicate n m None)

pub unrolled_from-append : (o : Option ℕ) (a n m : ℕ) → unrolled_from o a (n + m) ≡ unrolled_from o a n ++ unrolled_from o (a + n) m
unrolled_from-append None a n m = nulls-append n m
unrolled_from-append (Some s) a n m = picks_of-append s a (a + n) n m refl

pub joined_nulls : (r s : Run) → r.source ≡ None → s.source ≡ None → unrolled_from r.source r.start (r.len + s.len) ≡ unrolled r ++ unrolled s
joined_nulls r s e f = rw (e, f) (nulls-append r.len s.len)

pub joined_rows : (r s : Run) (a b : ℕ) → r.source ≡ Some a → s.source ≡ Some b → a ≡ b → r.start + r.len ≡ s.start → unrolled_from r.source r.start (r.len + s.len) ≡ unrolled r ++ unrolled s
joined_rows r s a b e f same next = rw (e, f, ← same) (picks_of-append a r.start s.start r.len s.len next)

-- The last run is replaced by one that also contains the next run.
pub last_joined : (rs : List Run) (i : ℕ) (last both run : Run) → i + 1 ≡ length rs → last ≡ get_or rs i last → unrolled both ≡ unrolled last ++ unrolled run → expand (slice_set rs i both) ≡ expand rs ++ unrolled run
last_joined [] i last both run end is joined = absurd (omega (arith, end))
last_joined (r ∷ []) zero last both run end is joined = grind (arith, common_steps, append-nil)
last_joined (r ∷ []) (suc i) last both run end is joined = absurd (omega (arith, end))
last_joined (r ∷ s ∷ rs) zero last both run end is joined = absurd (omega (arith, end))
last_joined (r ∷ s ∷ rs) (suc i) last both run end is joined = grind (arith, common_steps, append_assoc, (last_joined (s ∷ rs) i last both run (omega (arith, end)) is joined))

pub one_len : (rs : List Run) (i : ℕ) (run : Run) → i < length rs → run ≡ get_or rs i run → run.len ≤ length (expand rs)
one_len [] i run inside is = absurd (omega (arith, inside))
one_len (r ∷ rs) zero run inside is = grind (arith, common_steps, length-unrolled, length-append)
one_len (r ∷ rs) (suc i) run inside is = grind (arith, common_steps, length-append, (one_len rs i run (omega (arith, inside)) is))

-- An empty run.
pub none_unrolled : (r : Run) → r.len ≡ 0 → unrolled r ≡ []
none_unrolled r e = none_left (unrolled r) (length-unrolled r ∙ e)

pub ruleset run_rules = (expand-append, expand-one, length-unrolled)

-- ---- row references that fit

pub below_length : {A : Type 0} (xss : List (List A)) (s i : ℕ) → i < length (get_or xss s []) → s < length xss
below_length [] s i h = absurd (omega (arith, h))
below_length (xs ∷ xss) zero i h = omega arith
below_length (xs ∷ xss) (suc s) i h = let rest = below_length xss s i h in omega arith

-- The rows of a run of at least one row exist.
pub run_inside : {A : Type 0} (xss : List (List A)) (s a n : ℕ) → 0 < n → All (PickFits xss) (picks_of s a n) → a + n ≤ length (get_or xss s [])
run_inside xss s a n some fits =
    let inside : n - 1 < length (picks_of s a n) = rw (length-map-range_with_len (λ i. let p : Option (ℕ × ℕ) = Some (s, i) in p) a n) (omega arith) in
    let last = All-get_or (PickFits xss) (picks_of s a n) (n - 1) None inside fits in
    let place : get_or (picks_of s a n) (n - 1) None ≡ Some (s, a + (n - 1)) = get_or-map-range_with_len (λ i. Some (s, i)) a n (n - 1) (a + (n - 1)) None (omega arith) refl in
    let below : a + (n - 1) < length (get_or xss s []) = subst (PickFits xss) place last in
    omega arith

-- The source of a run of at least one row exists.
pub run_source : {A : Type 0} (xss : List (List A)) (s a n : ℕ) → 0 < n → All (PickFits xss) (picks_of s a n) → s < length xss
run_source xss s a n some fits =
    let h = run_inside xss s a n some fits in
    below_length xss s (a + n - 1) (omega arith)

-- ---- a loop over runs

-- The run at a position, as a loop over runs reads it.
abbrev pub run_at : List Run → ℕ → Run
run_at rs i = get_or rs i (record { source = None; start = 0; len = 0 })

-- The runs before a position, followed by the run at the position.
pub expand_more : (rs : List Run) (i : ℕ) → i < length rs → expand (take (i + 1) rs) ≡ expand (take i rs) ++ unrolled (run_at rs i)
expand_more rs i inside = ap expand (take_more rs i _ inside) ∙ expand-push (take i rs) (run_at rs i)

expand_split : (rs : List Run) (i : ℕ) → i < length rs → expand rs ≡ (expand (take i rs) ++ unrolled (run_at rs i)) ++ expand (drop (i + 1) rs)
expand_split rs i inside =
    ap expand (sym (take-append-drop (i + 1) rs)) ∙ expand-append (take (i + 1) rs) (drop (i + 1) rs) ∙ ap (λ l. l ++ expand (drop (i + 1) rs)) (expand_more rs i inside)

pub room_at : (rs : List Run) (i : ℕ) → i < length rs → length (expand (take i rs)) + (run_at rs i).len ≤ length (expand rs)
room_at rs i inside =
    let e = ap length (expand_split rs i inside) ∙ length-append (expand (take i rs) ++ unrolled (run_at rs i)) (expand (drop (i + 1) rs)) in
    let f = length-append (expand (take i rs)) (unrolled (run_at rs i)) in
    omega (arith, e, f, length-unrolled (run_at rs i))

pub length_more : (rs : List Run) (i : ℕ) → i < length rs → length (expand (take (i + 1) rs)) ≡ length (expand (take i rs)) + (run_at rs i).len
length_more rs i inside = grind (arith, common_steps, expand_more, length-append, length-unrolled)

pub All-left : {A : Type 0} (P : A → Type 0) (xs ys : List A) → All P (xs ++ ys) → All P xs
All-left P xs ys h = subst (All P) (take-append-le (length xs) xs ys (omega arith) ∙ take_all (length xs) xs (omega arith)) (All-take P (length xs) (xs ++ ys) h)

pub All-right : {A : Type 0} (P : A → Type 0) (xs ys : List A) → All P (xs ++ ys) → All P ys
All-right P xs ys h = subst (All P) (drop-append-le (length xs) xs ys (omega arith) ∙ ap (λ l. l ++ ys) (drop_all (length xs) xs (omega arith))) (All-drop P (length xs) (xs ++ ys) h)

pub all_at : (P : Option (ℕ × ℕ) → Type 0) (rs : List Run) (i : ℕ) → i < length rs → All P (expand rs) → All P (unrolled (run_at rs i))
all_at P rs i inside all =
    let split : All P ((expand (take i rs) ++ unrolled (run_at rs i)) ++ expand (drop (i + 1) rs)) = subst (All P) (expand_split rs i inside) all in
    All-right P (expand (take i rs)) (unrolled (run_at rs i)) (All-left P (expand (take i rs) ++ unrolled (run_at rs i)) (expand (drop (i + 1) rs)) split)

-- The rows of the runs before a position, followed by the others.
pub pick_split : {A : Type 0} (d : A) (xss : List (List A)) (rs : List Run) (i : ℕ) → pick d xss (expand rs) ≡ pick d xss (expand (take i rs)) ++ pick d xss (expand (drop i rs))
pick_split d xss rs i = ap (λ l. pick d xss (expand l)) (sym (take-append-drop i rs)) ∙ ap (pick d xss) (expand-append (take i rs) (drop i rs)) ∙ map-append (found d xss) (expand (take i rs)) (expand (drop i rs))

-- The rows of the runs up to the next position.
pub pick_more : {A : Type 0} (d : A) (xss : List (List A)) (rs : List Run) (i : ℕ) → i < length rs →
    pick d xss (expand (take (i + 1) rs)) ≡ pick d xss (expand (take i rs)) ++ pick d xss (unrolled (run_at rs i))
pick_more d xss rs i inside = ap (pick d xss) (expand_more rs i inside) ∙ map-append (found d xss) (expand (take i rs)) (unrolled (run_at rs i))

pub length-pick : {A : Type 0} (d : A) (xss : List (List A)) (ps : List (Option (ℕ × ℕ))) → length (pick d xss ps) ≡ length ps
length-pick d xss ps = length-map ps (found d xss)

-- ---- the rows of one run

pub pick_rows : {A : Type 0} (d : A) (xss : List (List A)) (s a n : ℕ) → a + n ≤ length (get_or xss s []) → pick d xss (picks_of s a n) ≡ take n (drop a (get_or xss s []))
pick_rows d xss s a zero h = refl
pick_rows d xss s a (suc n) h =
    let inside : a < length (get_or xss s []) = omega arith in
    let next : (a + 1) + n ≤ length (get_or xss s []) = omega arith in
    rw (drop_more (get_or xss s []) a d inside) (ap (λ l. get_or (get_or xss s []) a d ∷ l) (pick_rows d xss s (a + 1) n next))

pub pick_run : {A : Type 0} (d : A) (xss : List (List A)) (r : Run) (s : ℕ) → r.source ≡ Some s → r.start + r.len ≤ length (get_or xss s []) →
    pick d xss (unrolled r) ≡ take r.len (drop r.start (get_or xss s []))
pick_run d xss r s is inside = rw is (pick_rows d xss s r.start r.len inside)

pub map_nulls : {A : Type 0} (d : A) (xss : List (List A)) (n : ℕ) → pick d xss (replicate n None) ≡ replicate n d
map_nulls d xss n = map-replicate (found d xss) n None

pub pick_nulls : {A : Type 0} (d : A) (xss : List (List A)) (r : Run) → r.source ≡ None → pick d xss (unrolled r) ≡ replicate r.len d
pick_nulls d xss r is = rw is (map_nulls d xss r.len)

-- The source and the rows of a run of at least one row.
pub run_there : {A : Type 0} (xss : List (List A)) (r : Run) (s : ℕ) → r.source ≡ Some s → (r.len ≡ 0 → ⊥) → All (PickFits xss) (unrolled r) → (s < length xss) × (r.start + r.len ≤ length (get_or xss s []))
run_there xss r s is other fits =
    let picks : All (PickFits xss) (picks_of s r.start r.len) = subst (λ o. All (PickFits xss) (unrolled_from o r.start r.len)) is fits in
    let some : 0 < r.len = omega (arith, other) in
    (run_source xss s r.start r.len some picks, run_inside xss s r.start r.len some picks)

-- ---- runs that all have a source

pub picked_rows : (s a n : ℕ) → All IsPicked (picks_of s a n)
picked_rows s a n = All-map IsPicked (λ i. Some (s, i)) (range_with_len a n) (λ k d h. tt)

pub run_picked : (r : Run) (s : ℕ) → r.source ≡ Some s → All IsPicked (unrolled r)
run_picked r s is = rw is (picked_rows s r.start r.len)

picked_run : (o : Option ℕ) (a n : ℕ) → is_none o ≡ false → All IsPicked (unrolled_from o a n)
picked_run None a n named = absurd cc
picked_run (Some s) a n named = picked_rows s a n

pub named_picked : (rs : List Run) → All (λ r. is_none r.source ≡ false) rs → All IsPicked (expand rs)
named_picked [] named = All-nil IsPicked
named_picked (r ∷ rs) named = grind (arith, common_steps, picked_run, All-head, is_none, All-tail, All-append, (named_picked rs (All-tail (λ r. is_none r.source ≡ false) r rs named)))

-- ---- a run and the row references after it

-- The run with the next row reference, which continues it.
pub run_extended : (all both one : Run) (ps : List (Option (ℕ × ℕ))) (at : ℕ) (p : Option (ℕ × ℕ)) → at < length ps → p ≡ get_or ps at None → unrolled one ≡ p ∷ [] → unrolled both ≡ unrolled all ++ unrolled one →
    unrolled all ++ drop at ps ≡ unrolled both ++ drop (at + 1) ps
run_extended all both one ps at p h is of_one joined = grind (arith, common_steps, drop_more, append_assoc)

pub length-extended : (all both one : Run) → unrolled both ≡ unrolled all ++ unrolled one → both.len ≡ all.len + one.len
length-extended all both one joined =
    let long = ap length joined ∙ length-append (unrolled all) (unrolled one) in
    omega (arith, long, length-unrolled all, length-unrolled both, length-unrolled one)

-- The number of rows after one more run.
pub counted_more : (rs : List Run) (i count : ℕ) → i < length rs → count ≡ length (expand (take i rs)) → count + (run_at rs i).len ≡ length (expand (take (i + 1) rs))
counted_more rs i count inside is = omega (arith, length_more rs i inside, is)
