-- Gathered lists that are read once.
use Rattle.sel_gather.proofs.Common.{common_steps, take-map, ◌≡◌, ◌≢◌, All, Bor, ℤ, pos, ℕ, zero, suc, ◌+◌, ◌≤◌, ◌<◌, true, false, List, [], ◌∷◌, ◌++◌, length, take}
use Rattle.sel_gather.proofs.Common.{map, get_or, Option, Some, None, refl, ap, sym, subst, ◌∙◌, arith, length-append, ForSome, Result, get_or-map}
use Rattle.sel_gather.proofs.Common.{map-append, get_or-replicate, Bits, max_rows, Limit}
use Rattle.sel_gather.proofs.Common.{RowLimit, PolarsError, valid_at, IsValidityOf, rows, type_of, IsWellFormed, Shape, of_null, of_fixed_size_list}
use Rattle.sel_gather.proofs.Common.{of_large_list, Value, Null, is_valid, validities, Column, child, is_listing, joined_items, item_ends, Collects, MayGather}
use Rattle.sel_gather.proofs.Common.{ExceedsRows, found, pick, PickFits, HasBit, bits_found, AreValidities, columns_of}
use Rattle.sel_gather.proofs.ItemRuns.{joined_part, rows_of, below_of, joined-append, ends-append}
use Rattle.sel_gather.proofs.Below.{Recurses, child_type, items_recurse, mapped_now}
use Rattle.sel_runs.proofs.Mapped.{one_mapped, two_mapped}
use Rattle.sel_gather.proofs.{SplitRuns.told_bits, SplitRuns.told_length}
use Rattle.sel_gather.proofs.{SplitRuns.told_valid}

-- ---- the child rows of its lists

pub items_behind : (w : ℕ) (now before more : List Value) → now ≡ before ++ more → joined_items w now ≡ joined_items w before ++ joined_items w more
items_behind w now before more is = ap (joined_items w) is ∙ joined-append w before more

pub counts_behind : (w : ℕ) (now before more : List Value) (old new : ℕ) → now ≡ before ++ more → old ≡ length (joined_items w before) → new ≡ old + length (joined_items w more) → new ≡ length (joined_items w now)
counts_behind w now before more old new is e f = grind (arith, common_steps, items_behind, length-append)

pub ends_behind : (now before more : List Value) (end : ℕ) (old new : List ℤ) → now ≡ before ++ more → end ≡ length (joined_items 0 before) → old ≡ map pos (0 ∷ item_ends 0 before) →
    new ≡ old ++ map pos (item_ends end more) → new ≡ map pos (0 ∷ item_ends 0 now)
ends_behind now before more end old new is e f g = grind (arith, common_steps, ends-append, map-append)

-- A prefix of the lists has at most as many child rows as all lists.
pub joined_first : (w : ℕ) (xss : List (List Value)) (ps : List (Option (ℕ × ℕ))) (k : ℕ) → length (joined_items w (pick Null xss (take k ps))) ≤ length (joined_items w (pick Null xss ps))
joined_first w xss ps k = rw (← take-map) (joined_part w (pick Null xss ps) k)

pub past_more : (m n : ℕ) → m ≤ n → (limit : Limit) → ExceedsRows m limit → ExceedsRows n limit
past_more m n le RowLimit h = omega (arith, le, h)
past_more m n le _ h = h

-- ---- the validities of the sources

pub told_row : (s : Shape) (v : Option Bits) (vs : List Value) (i : ℕ) → s ≢ of_null → IsValidityOf s v vs → i < length vs → valid_at v i ≡ is_valid (get_or vs i Null)
told_row s None vs i other tells h =
    sym (get_or-replicate (length vs) i true false h) ∙ ap (λ l. get_or l i false) (sym (told_valid s None vs other tells refl)) ∙ get_or-map is_valid vs i Null false h
told_row s (Some b) vs i other tells h = grind (arith, common_steps, told_bits, get_or-map)

told_at : (vs : List (Option Bits)) (cs : List (Bor Column)) (s i : ℕ) → AreValidities vs (columns_of cs) → All (λ c. type_of c.now ≢ of_null) cs → i < length (get_or (rows_of cs) s []) →
    (valid_at (get_or vs s None) i ≡ is_valid (get_or (get_or (rows_of cs) s []) i Null)) × (s < length vs) × ForSome (get_or vs s None) (λ b. i < length b.bits)
told_at vs [] s i told known h = absurd (omega (arith, h))
told_at [] (c ∷ cs) s i told known h = absurd told
told_at (v ∷ vs) (c ∷ cs) zero i told known h =
    let other = known 0 c (omega arith) in
    (told_row (type_of c.now) v (rows c.now) i other told.0 h, omega arith, λ b is. omega (arith, h, told_length (type_of c.now) v (rows c.now) other told.0 b is))
told_at (v ∷ vs) (c ∷ cs) (suc s) i told known h =
    let rest = told_at vs cs s i told.1 (λ k d below. known (suc k) d (omega (arith, below))) h in
    (rest.0, omega (arith, rest.1), rest.2)

-- The gathered validity bits are the validity of the gathered rows.
pub told_picked : (vs : List (Option Bits)) (cs : List (Bor Column)) (ps : List (Option (ℕ × ℕ))) → AreValidities vs (columns_of cs) → All (λ c. type_of c.now ≢ of_null) cs → All (PickFits (rows_of cs)) ps →
    bits_found vs ps ≡ validities (pick Null (rows_of cs) ps)
told_picked vs cs [] told known fits = refl
told_picked vs cs (None ∷ ps) told known fits = ap (λ l. false ∷ l) (told_picked vs cs ps told known (λ k d h. fits (suc k) d (omega (arith, h))))
told_picked vs cs (Some p ∷ ps) told known fits =
    let here = (told_at vs cs p.0 p.1 told known (fits 0 None (omega arith))).0 in
    let rest = told_picked vs cs ps told known (λ k d h. fits (suc k) d (omega (arith, h))) in
    (λ i. here i ∷ rest i)

-- Row references that fit the rows refer to bits of these validities.
pub told_fits : (vs : List (Option Bits)) (cs : List (Bor Column)) (ps : List (Option (ℕ × ℕ))) → AreValidities vs (columns_of cs) → All (λ c. type_of c.now ≢ of_null) cs → All (PickFits (rows_of cs)) ps → All (HasBit vs) ps
told_fits vs cs ps told known fits k d h = by (get_or ps k d) (fits k d h)
  where
    by : (p : Option (ℕ × ℕ)) → PickFits (rows_of cs) p → HasBit vs p
    by None there = tt
    by (Some p) there = let at = told_at vs cs p.0 p.1 told known there in (at.1, at.2)

-- One more validity.
pub told_more : (vs new : List (Option Bits)) (cs : List Column) (v : Option Bits) (c : Column) → AreValidities vs cs → IsValidityOf (type_of c) v (rows c) → new ≡ vs ++ v ∷ [] → AreValidities new (cs ++ c ∷ [])
told_more vs new cs v c told here is = subst (λ l. AreValidities l (cs ++ c ∷ [])) (sym is) (behind vs cs told)
  where
    behind : (vs : List (Option Bits)) (cs : List Column) → AreValidities vs cs → AreValidities (vs ++ v ∷ []) (cs ++ c ∷ [])
    behind [] [] told = (here, tt)
    behind [] (d ∷ cs) told = absurd told
    behind (w ∷ vs) [] told = absurd told
    behind (w ∷ vs) (d ∷ cs) told = (told.0, behind vs cs told.1)

-- The validity of a single source.
pub one_told : (cs : List (Bor Column)) (c : Bor Column) (v : Option Bits) → 1 ≤ length cs → length cs < 2 → c ≡ get_or cs 0 c → IsValidityOf (type_of c.now) v (rows c.now) → AreValidities (v ∷ []) (columns_of cs)
one_told [] c v some one is told = absurd (omega (arith, some))
one_told (x ∷ []) c v some one is told = (subst (λ (y : Bor Column). IsValidityOf (type_of y.now) v (rows y.now)) is told, tt)
one_told (x ∷ y ∷ cs) c v some one is told = absurd (omega (arith, one))

-- The validities of two sources.
pub two_told : (cs : List (Bor Column)) (c d : Bor Column) (v w : Option Bits) → 2 ≤ length cs → length cs < 3 → c ≡ get_or cs 0 c → d ≡ get_or cs 1 d → IsValidityOf (type_of c.now) v (rows c.now) → IsValidityOf (type_of d.now) w (rows d.now) → AreValidities (v ∷ w ∷ []) (columns_of cs)
two_told [] c d v w some two is other told more = absurd (omega (arith, some))
two_told (x ∷ []) c d v w some two is other told more = absurd (omega (arith, some))
two_told (x ∷ y ∷ []) c d v w some two is other told more = grind (arith, common_steps, rows)
two_told (x ∷ y ∷ z ∷ cs) c d v w some two is other told more = absurd (omega (arith, two))

-- Sources without a validity.
pub none_told : (cs : List (Bor Column)) → All (λ c. IsValidityOf (type_of c.now) None (rows c.now)) cs → AreValidities (map (λ c. None) cs) (columns_of cs)
none_told [] none = tt
none_told (c ∷ cs) none = (none 0 c (omega arith), none_told cs (λ k d h. none (suc k) d (omega (arith, h))))

-- ---- the children of list columns

pub lists_known : (s : Shape) (cs : List (Bor Column)) → All (λ c. type_of c.now ≡ of_large_list s) cs → All (λ c. type_of c.now ≢ of_null) cs
lists_known s cs alike k d h none = let bad : of_large_list s ≡ of_null = sym (alike k d h) ∙ none in absurd cc

pub blocks_known : (s : Shape) (w : ℕ) (cs : List (Bor Column)) → All (λ c. type_of c.now ≡ of_fixed_size_list s w) cs → All (λ c. type_of c.now ≢ of_null) cs
blocks_known s w cs alike k d h none = let bad : of_fixed_size_list s w ≡ of_null = sym (alike k d h) ∙ none in absurd cc

pub lists_child : (s : Shape) (cs : List (Bor Column)) → All (λ c. type_of c.now ≡ of_large_list s) cs → All (λ c. type_of (child c.now) ≡ s) cs
lists_child s cs alike = λ k d h. child_type (get_or cs k d).now s (alike k d h)

pub lists_listing : (s : Shape) (cs : List (Bor Column)) → All (λ c. type_of c.now ≡ of_large_list s) cs → All (λ c. is_listing (type_of c.now) ≡ true) cs
lists_listing s cs alike = λ k d h. ap is_listing (alike k d h)

-- The child of a single column.
pub one_child : (cs : List (Bor Column)) (c x : Bor Column) → 1 ≤ length cs → length cs < 2 → c ≡ get_or cs 0 c → x.now ≡ child c.now → x.now ∷ [] ≡ map (λ c. child c.now) cs
one_child cs c x some one is child_is = one_mapped (λ (z : Bor Column). child z.now) cs c x.now some one is child_is

-- The children of two columns.
pub two_children : (cs : List (Bor Column)) (c d x y : Bor Column) → 2 ≤ length cs → length cs < 3 → c ≡ get_or cs 0 c → d ≡ get_or cs 1 d → x.now ≡ child c.now → y.now ≡ child d.now → x.now ∷ y.now ∷ [] ≡ map (λ c. child c.now) cs
two_children cs c d x y some two is other e h = two_mapped (λ (z : Bor Column). child z.now) cs c d x.now y.now some two is other e h

module _ (s : Shape) (cs xs : List (Bor Column)) (found : map (λ x. x.now) xs ≡ map (λ c. child c.now) cs) (lists : All (λ c. is_listing (type_of c.now) ≡ true) cs) (alike : All (λ c. type_of (child c.now) ≡ s) cs) (formed : All (λ c. IsWellFormed c.now) cs) where
  pub children_recurse : Recurses s xs (below_of cs)
  children_recurse = items_recurse s xs cs found lists alike formed

  pub children_may : (ps : List (Option (ℕ × ℕ))) (n : ℕ) → All (PickFits (below_of cs)) ps → length ps ≡ n → n ≤ max_rows → MayGather xs ps n
  children_may ps n fits len few = record { formed = children_recurse.formed; fits = subst (λ xss. All (PickFits xss) ps) (sym children_recurse.rows) fits; len = len; few = few }

  pub children_collected : (r : Result Column PolarsError) (ps : List (Option (ℕ × ℕ))) → Collects r s (columns_of xs) (pick Null (rows_of xs) ps) → Collects r s (map child (columns_of cs)) (pick Null (below_of cs) ps)
  children_collected r ps h =
      subst (λ columns. Collects r s columns (pick Null (below_of cs) ps)) (found ∙ mapped_now child cs) (subst (λ xss. Collects r s (columns_of xs) (pick Null xss ps)) children_recurse.rows h)
