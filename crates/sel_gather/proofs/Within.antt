-- If a column is returned, no limit is exceeded.
use Rattle.sel_gather.proofs.Common.{common_steps, ◌≡◌, ◌⊎◌, inl, inr, ℕ, suc, ◌+◌, ◌≤◌, ◌<◌, true, List, [], ◌∷◌, length, map, subst, arith, get_or, cases_lt}
use Rattle.sel_gather.proofs.Common.{max_buffers, max_rows, Limit, RowLimit, BufferLimit, rows, type_of, well_formed, Shape, of_null, shapes_of, Value, Column}
use Rattle.sel_gather.proofs.Common.{field, part_at, ExceedsRows, ExceedsBuffers, ExceedsNone, exceeded_limits, exceeded_taken, exceeded_in_fields}
use Rattle.sel_gather.proofs.Thinned.{whole_fits}

pub few_rows_pass : (n : ℕ) → n ≤ max_rows → ExceedsNone (ExceedsRows n)
few_rows_pass n few RowLimit h = absurd (omega (arith, few, h))
few_rows_pass n few _ h = h

pub few_buffers_pass : (n : ℕ) → n ≤ max_buffers → ExceedsNone (ExceedsBuffers n)
few_buffers_pass n few BufferLimit h = absurd (omega (arith, few, h))
few_buffers_pass n few _ h = h

pub passes_neither : (P Q : Limit → Type 0) → ExceedsNone P → ExceedsNone Q → ExceedsNone (λ limit. P limit ⊎ Q limit)
passes_neither P Q p q limit (inl h) = p limit h
passes_neither P Q p q limit (inr h) = q limit h

-- The rows of a well-formed column exceed no limit of its type.
pub rows_pass : (c : Column) (s : Shape) (vs : List Value) → well_formed c ≡ true → type_of c ≡ s → rows c ≡ vs → ExceedsNone (exceeded_limits s vs)
rows_pass c s vs formed kind same limit h = grind (arith, common_steps, whole_fits)

-- If no field exceeds a limit, the struct exceeds none.
pub fields_pass : (ss : List Shape) (start : ℕ) (columns : List Column) (vs : List Value) →
    ((k : ℕ) → k < length ss → ExceedsNone (exceeded_taken (get_or ss k of_null) (map (field (start + k)) columns) (map (part_at (start + k)) vs))) →
    ExceedsNone (exceeded_in_fields (shapes_of ss) start columns vs)
fields_pass [] start columns vs each limit h = h
fields_pass (s ∷ ss) start columns vs each limit (inl h) =
    let same : start ≡ start + 0 = omega arith in
    each 0 (omega arith) limit (subst (λ n. exceeded_taken s (map (field n) columns) (map (part_at n) vs) limit) same h)
fields_pass (s ∷ ss) start columns vs each limit (inr h) =
    fields_pass ss (start + 1) columns vs
    (λ k below other exceeded_limits. let same : (start + 1) + k ≡ start + suc k = omega arith in
    each (suc k) (omega (arith, below)) other (subst (λ n. exceeded_taken (get_or ss k of_null) (map (field n) columns) (map (part_at n) vs) other) same exceeded_limits))
    limit h

-- One more field.
pub one_more_passes : (ss : List Shape) (j : ℕ) (columns : List Column) (vs : List Value) →
    ((k : ℕ) → k < j → ExceedsNone (exceeded_taken (get_or ss k of_null) (map (field k) columns) (map (part_at k) vs))) →
    ExceedsNone (exceeded_taken (get_or ss j of_null) (map (field j) columns) (map (part_at j) vs)) →
    (k : ℕ) → k < j + 1 → ExceedsNone (exceeded_taken (get_or ss k of_null) (map (field k) columns) (map (part_at k) vs))
one_more_passes ss j columns vs each here k h limit exceeded_limits = by_place (cases_lt k j)
  where
    by_place : (k < j) ⊎ (j ≤ k) → ⊥
    by_place (inl below) = each k below limit exceeded_limits
    by_place (inr above) =
        let same : k ≡ j = omega (arith, above, h) in
        here limit (subst (λ n. exceeded_taken (get_or ss n of_null) (map (field n) columns) (map (part_at n) vs) limit) same exceeded_limits)
