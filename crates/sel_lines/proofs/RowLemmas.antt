-- Rows that are parsed and printed one by one.
use Rattle.std.proofs.Common.{rules, Result, Ok, Err, IsOkAnd, IfOk, ◌≡◌, ◌≢◌, ℕ, suc, ◌+◌, ◌≤◌, ◌<◌, Bool, false, List, [], ◌∷◌, ◌++◌, length, get_or, take, drop, map, Option, Some, None, arith, refl, ap, sym, ◌∙◌, Bor, append_assoc, option_map, codes, cond, is_some, unwrap_or}
use Rattle.sel_lines.proofs.Common.{common_steps, join_with_byte, slice_split, take_more, map-append, take-append-drop, length-take, length-map, hidden, shown_row, Value, Null}
use Rattle.std.proofs.{Math.Seq.drop-cons, lemmas.Simd.map-map}
use Rattle.sel_gather.proofs.Grown.{hidden-append}
use Rattle.sel_lines.specs.Columns.{all_some, row_text, column_text}

pub mapped_some : {A B P : Type 0} (f : A → B) (found : Option A) (y : B) → option_map f found ≡ Some y →
    ((x : A) → found ≡ Some x → f x ≡ y → P) → P
mapped_some f found y is then = grind (arith, common_steps)

all_some_push : {X : Type 0} (xs : List (Option X)) (ys : List X) (y : X) → all_some xs ≡ Some ys → all_some (xs ++ (Some y ∷ [])) ≡ Some (ys ++ (y ∷ []))
all_some_push [] ys y e = let same : [] ≡ ys = cc in ap (λ r. Some (r ++ (y ∷ []))) same
all_some_push (None ∷ xs) ys y e = cc
all_some_push (Some x ∷ xs) ys y e = search (rules, (all_some_push xs))

all_some_none : {X : Type 0} (xs zs : List (Option X)) → all_some (xs ++ (None ∷ zs)) ≡ None
all_some_none [] zs = refl
all_some_none (None ∷ xs) zs = refl
all_some_none (Some x ∷ xs) zs = ap (option_map (λ ys. x ∷ ys)) (all_some_none xs zs)

-- One more row.
pub rows_step : {A X : Type 0} (f : A → Option X) (words : List A) (i : ℕ) (d : A) (rows : List X) (row : X) → i < length words
    → all_some (map f (take i words)) ≡ Some rows → f (get_or words i d) ≡ Some row → all_some (map f (take (i + 1) words)) ≡ Some (rows ++ (row ∷ []))
rows_step f words i d rows row lt before here = grind (arith, common_steps, take_more, map-append, all_some_push)

-- One more item, with the row that it shows.
pub rows_pushed : {A B X : Type 0} (f : A → Option X) (shown : B → X) (words : List A) (i : ℕ) (d : A) (old new : List B) (item : B) →
    i < length words
    → all_some (map f (take i words)) ≡ Some (map shown old) → f (get_or words i d) ≡ Some (shown item) → new ≡ old ++ (item ∷ []) →
    all_some (map f (take (i + 1) words)) ≡ Some (map shown new)
rows_pushed f shown words i d old new item lt before here more = grind (arith, common_steps, rows_step, map-append)

-- A word that is not a row.
pub rows_none : {A X : Type 0} (f : A → Option X) (words : List A) (i : ℕ) (d : A) → i < length words → f (get_or words i d) ≡ None → None ≡ all_some (map f words)
rows_none f words i d lt here =
    let cut : words ≡ take i words ++ (get_or words i d ∷ drop (suc i) words) = sym (take-append-drop i words) ∙ ap (λ r. take i words ++ r) (drop-cons words i d lt) in
    let mapped = ap (map f) cut ∙ map-append f (take i words) (get_or words i d ∷ drop (suc i) words) ∙ ap (λ r. map f (take i words) ++ (r ∷ map f (drop (suc i) words))) here in
    sym (ap all_some mapped ∙ all_some_none (map f (take i words)) (map f (drop (suc i) words)))

join_push : (c : ℕ) (parts : List (List ℕ)) (part : List ℕ) → 0 < length parts → join_with_byte c (parts ++ (part ∷ [])) ≡ join_with_byte c parts ++ (c ∷ part)
join_push c [] part some = absurd (omega arith)
join_push c (x ∷ []) part some = refl
join_push c (x ∷ y ∷ more) part some = ap (λ r. x ++ (c ∷ r)) (join_push c (y ∷ more) part (omega arith)) ∙ sym (append_assoc x (c ∷ join_with_byte c (y ∷ more)) (c ∷ part))

-- One more part, after a comma if it is not the first.
pub join_first_step : {A : Type 0} (c : ℕ) (f : A → List ℕ) (rows : List A) (i : ℕ) (d : A) (old new : List ℕ) → i < length rows → i ≤ 0
    → old ≡ join_with_byte c (map f (take i rows)) → new ≡ old ++ f (get_or rows i d) → new ≡ join_with_byte c (map f (take (i + 1) rows))
join_first_step c f rows i d old new lt first before now = grind (arith, common_steps)

pub join_step : {A : Type 0} (c : ℕ) (f : A → List ℕ) (rows : List A) (i : ℕ) (d : A) (old mid new : List ℕ) → i < length rows → 0 < i
    → old ≡ join_with_byte c (map f (take i rows)) → mid ≡ old ++ (c ∷ []) → new ≡ mid ++ f (get_or rows i d)
    → new ≡ join_with_byte c (map f (take (i + 1) rows))
join_step c f rows i d old mid new lt some before comma now = grind (arith, common_steps, take_more, map-append, length-map, length-take, join_push)

pub text_of_none : (rows : List Value) → length rows ≡ 0 → column_text rows ≡ codes "-"
unfolding column_text
text_of_none rows none = grind (arith, common_steps)

pub text_of_some : (rows : List Value) → length rows ≢ 0 → column_text rows ≡ join_with_byte 44 (map row_text rows)
unfolding column_text
text_of_some rows some = grind (arith, common_steps)

pub map_now : {Y : Type 0} (f : List ℕ → Y) (words : List (Bor (List ℕ))) → map (λ word. f word.now) words ≡ map f (map (λ word. word.now) words)
map_now f words = sym (map-map f (λ (word : Bor (List ℕ)). word.now) words)

-- The rows of the words between separators are the rows of the whole word.
pub parts_read : (value_of : List ℕ → Option Value) (p : ℕ → Bool) (none : Bool) (word : List ℕ) (parts words : List (Bor (List ℕ))) →
    false ≡ none → words ≡ parts → map (λ part. part.now) parts ≡ slice_split p word →
    all_some (map (λ part. value_of part.now) words) ≡ cond none (Some []) (all_some (map value_of (slice_split p word)))
parts_read value_of p none word parts words some same cut = rw (same, ← some, ← cut) (ap all_some (map_now value_of parts))

-- ---- items and their validity

shown_here : {T : Type 0} (shown : T → Value) (row : Option T) (beneath : T) → cond (is_some row) (shown (unwrap_or row beneath)) Null ≡ shown_row shown row
shown_here shown row beneath = grind (arith, common_steps)

-- More items and flags.
pub items_more : {T : Type 0} (shown : T → Value) (fs gs bs : List Bool) (xs zs ys : List T) → length fs ≡ length xs → gs ≡ fs ++ bs →
    zs ≡ xs ++ ys
    → hidden gs (map shown zs) ≡ hidden fs (map shown xs) ++ hidden bs (map shown ys)
items_more shown fs gs bs xs zs ys paired isg isz =
    rw (isg, isz, map-append) (hidden-append fs bs (map shown xs) (map shown ys) (paired ∙ sym (length-map xs shown)))

-- One more optional item.
pub hidden_more : {T : Type 0} (shown : T → Value) (bs cs : List Bool) (xs ys : List T) (row : Option T) (beneath : T) → length bs ≡ length xs
    → cs ≡ bs ++ (is_some row ∷ []) → ys ≡ xs ++ (unwrap_or row beneath ∷ [])
    → hidden bs (map shown xs) ++ (shown_row shown row ∷ []) ≡ hidden cs (map shown ys)
hidden_more shown bs cs xs ys row beneath same isc isy =
    ap (λ v. hidden bs (map shown xs) ++ (v ∷ [])) (sym (shown_here shown row beneath))
    ∙ sym (items_more shown bs cs (is_some row ∷ []) xs ys (unwrap_or row beneath ∷ []) same isc isy)

-- ---- the text of a computed column

pub printed_as : {C E : Type 0} (computed : Result (Option C) E) (shown : Option C → Option (List ℕ)) (text want : Option (List ℕ)) →
    IsOkAnd computed (λ column. text ≡ shown column) → IfOk computed (λ column. shown column ≡ want) → text ≡ want
printed_as (Ok column) shown text want is same = is ∙ same
printed_as (Err _) shown text want is same = elim is [ ]

pub printed_rows : {C E : Type 0} (rows : C → List Value) (computed : Result (Option C) E) (text : Option (List ℕ)) (want : Option (List Value)) →
    IsOkAnd computed (λ column. text ≡ option_map (λ c. column_text (rows c)) column) → IfOk computed (λ column. option_map rows column ≡ want) →
    text ≡ option_map column_text want
printed_rows rows (Ok None) text want is same = is ∙ ap (option_map column_text) same
printed_rows rows (Ok (Some column)) text want is same = is ∙ ap (option_map column_text) same
printed_rows rows (Err _) text want is same = elim is [ ]
