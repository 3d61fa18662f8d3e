-- Lists of nulls: their child rows are null.
use Rattle.sel_gather.proofs.Common.{common_steps, part_of, All-replicate, zero, suc, refl, ap, sym, ◌∙◌, ◌≡◌, All, Bor, ℕ, ◌<◌, true, List, [], ◌∷◌, length}
use Rattle.sel_gather.proofs.Common.{replicate, Option, Some, None, subst, arith, get_or, All-append, All-take, All-drop, rows, type_of, well_formed}
use Rattle.sel_gather.proofs.Common.{IsWellFormed, of_null, Value, Null, Column, NullColumn, child, is_listing, items_in, joined_items, found, pick, PickFits}
use Rattle.sel_gather.proofs.Common.{get_or_default, length-map}
use Rattle.sel_gather.proofs.{ListParts.IsPart, ListParts.part_is, EachRow.picked_all, EachRow.source_all, EachRow.sources_all, ItemRuns.rows_of}
use Rattle.sel_gather.proofs.{ItemRuns.listed_values}

-- Each value is null.
abbrev AreNull : List Value → Type 0
AreNull vs = All (λ v. v ≡ Null) vs

nulls_are : (n : ℕ) → AreNull (replicate n Null)
nulls_are n = All-replicate (λ v. v ≡ Null) n Null refl

pub all_nulls : (vs : List Value) → AreNull vs → vs ≡ replicate (length vs) Null
all_nulls [] all = refl
all_nulls (v ∷ vs) all =
    let here = all 0 v (omega arith) in
    ap (λ x. x ∷ vs) here ∙ ap (λ l. Null ∷ l) (all_nulls vs (λ k d h. all (suc k) d (omega (arith, h))))

null_column : (c : Column) → type_of c ≡ of_null → AreNull (rows c)
null_column (NullColumn column) is = nulls_are column.length
null_column c is = absurd cc

null_at : (n k : ℕ) → get_or (replicate n Null) k Null ≡ Null
null_at zero k = refl
null_at (suc n) zero = refl
null_at (suc n) (suc k) = null_at n k

null_rows : (c : Column) → type_of c ≡ of_null → (k : ℕ) → get_or (rows c) k Null ≡ Null
null_rows (NullColumn column) is k = null_at column.length k
null_rows c is k = absurd cc

-- The child rows of one list, or of a null row.
row_null : (c : Column) → is_listing (type_of c) ≡ true → well_formed c ≡ true → type_of (child c) ≡ of_null → (w i : ℕ) → i < length (rows c) → AreNull (items_in w (get_or (rows c) i Null))
row_null c lists formed is w i h = by (part_of c i) (part_is c i lists formed h)
  where
    by : (o : Option (ℕ × ℕ)) → IsPart c i o → AreNull (items_in w (get_or (rows c) i Null))
    by None null = subst AreNull (sym (ap (items_in w) null)) (nulls_are w)
    by (Some part) row = grind (arith, common_steps, rows, listed_values, All-take, All-drop, null_column, is)

module _ (w : ℕ) where
  module _ (cs : List (Bor Column)) (lists : All (λ c. is_listing (type_of c.now) ≡ true) cs) (formed : All (λ c. IsWellFormed c.now) cs) (is : All (λ c. type_of (child c.now) ≡ of_null) cs) where
    found_null : (p : Option (ℕ × ℕ)) → PickFits (rows_of cs) p → AreNull (items_in w (found Null (rows_of cs) p))
    found_null None fits = nulls_are w
    found_null (Some p) fits =
        source_all (λ vs. (i : ℕ) → i < length vs → AreNull (items_in w (get_or vs i Null))) (λ i h. absurd (omega (arith, h))) (λ (c : Bor Column). rows c.now) cs
        (λ k d h i. row_null (get_or cs k d).now (lists k d h) (formed k d h) (is k d h) w i) p.0 p.1 fits

    items_null : (ps : List (Option (ℕ × ℕ))) → All (PickFits (rows_of cs)) ps → AreNull (joined_items w (pick Null (rows_of cs) ps))
    items_null [] fits = λ k d h. absurd (omega (arith, h))
    items_null (p ∷ ps) fits =
        All-append (λ v. v ≡ Null) (items_in w (found Null (rows_of cs) p)) (joined_items w (pick Null (rows_of cs) ps))
        (found_null p (fits 0 p (omega arith))) (items_null ps (λ k d h. fits (suc k) d (omega (arith, h))))

    -- The child rows of all rows, with their number.
    pub null_items_in : (ps : List (Option (ℕ × ℕ))) → All (PickFits (rows_of cs)) ps → joined_items w (pick Null (rows_of cs) ps) ≡ replicate (length (joined_items w (pick Null (rows_of cs) ps))) Null
    null_items_in ps fits = all_nulls (joined_items w (pick Null (rows_of cs) ps)) (items_null ps fits)

-- Each row that is gathered from null columns is null.
pub null_picks : (cs : List (Bor Column)) (ps : List (Option (ℕ × ℕ))) (n : ℕ) → All (λ c. type_of c.now ≡ of_null) cs → length ps ≡ n → replicate n Null ≡ pick Null (rows_of cs) ps
null_picks cs ps n alike long =
    let vs = pick Null (rows_of cs) ps in
    let each = picked_all (λ v. v ≡ Null) refl (rows_of cs) (sources_all (λ v. v ≡ Null) refl (λ (c : Bor Column). rows c.now) cs (λ k d h. null_rows (get_or cs k d).now (alike k d h))) ps in
    let count : length vs ≡ n = length-map ps (found Null (rows_of cs)) ∙ long in
    ap (λ k. replicate k Null) (sym count) ∙ sym (all_nulls vs (λ k d h. get_or_default vs k d Null h ∙ each k))
