-- Laws that relate filters, takes and if-then-else on lists of any element type, and laws of null
-- propagation in dictionaries.
use Rattle.std.specs.Prelude.{◌≡◌, ℕ, pos, Bool, true, List, [], ◌∷◌, length, map, replicate}
use Rattle.std.specs.Prelude.{Option, None, not, count_by, slice_get, option_and_then}
use Rattle.sel_arrow.specs.Value.{Value, Null, Number, is_null}
use Rattle.sel_ternary.specs.Choose.{choose, broadcast_true, broadcast_false, broadcast_both}
use Rattle.sel_kernels.specs.Dictionary.{decode, propagated_keys, valid_values}
use Rattle.sel_kernels.specs.Select.{select, effective_mask, kept}
use Rattle.sel_kernels.specs.Pick.{pick, place_pick, take_rows, all_within}

-- ---- filters and takes

-- Filtering a list by a mask of the same length equals taking it at the positions of the true
-- entries of the mask.
abbrev pub FilterIsTake : Type 0 → Type 0
FilterIsTake A =
    (d : A) (xs : List A) (ms : List Bool) → length xs ≡ length ms →
    select xs ms ≡ pick d (xs ∷ []) (map place_pick (kept ms))

-- The composition of row references: entry k is the entry of `ps` that reference k of `qs` refers
-- to; none if that reference is none or out of bounds.
abbrev pub composed : List (Option (ℕ × ℕ)) → List (Option (ℕ × ℕ)) → List (Option (ℕ × ℕ))
composed ps qs = pick None (ps ∷ []) qs

-- A take by `qs` of the result of a take by `ps` equals a single take by the composed row
-- references.
abbrev pub TakesCompose : Type 0 → Type 0
TakesCompose A =
    (d : A) (xss : List (List A)) (ps qs : List (Option (ℕ × ℕ))) →
    pick d (pick d xss ps ∷ []) qs ≡ pick d xss (composed ps qs)

-- The row reference to the position at an index; none if the index is null, negative or out of
-- bounds.
abbrev pub source_pick : List ℕ → Value → Option (ℕ × ℕ)
source_pick places (Number (pos i)) = option_and_then place_pick (slice_get places i)
source_pick places _ = None

-- For rows as long as the mask, taking indices of the filtered rows equals a single take of the
-- unfiltered rows.
abbrev pub SelectedRowsAreTaken : Type 0
SelectedRowsAreTaken = (xs mask indices : List Value) → length xs ≡ length mask →
    take_rows (select xs (effective_mask mask)) indices
    ≡ pick Null (xs ∷ []) (map (source_pick (kept (effective_mask mask))) indices)

-- ---- filters of if-then-else

-- For lists as long as the mask, filtering an if-then-else by its own mask equals filtering the
-- true values by it.
abbrev pub KeepsThen : Type 0 → Type 0
KeepsThen A =
    (ms : List Bool) (ts fs : List A) → length ts ≡ length ms → length fs ≡ length ms →
    select (choose ms ts fs) ms ≡ select ts ms

-- For lists as long as the mask, filtering an if-then-else by its negated mask equals filtering the
-- false values by it.
abbrev pub KeepsOtherwise : Type 0 → Type 0
KeepsOtherwise A =
    (ms : List Bool) (ts fs : List A) → length ts ≡ length ms → length fs ≡ length ms →
    select (choose ms ts fs) (map not ms) ≡ select fs (map not ms)

-- ---- broadcast

-- If-then-else with a broadcast true value equals if-then-else with the list that repeats it for
-- each entry of the mask.
abbrev pub RepeatsThen : Type 0 → Type 0
RepeatsThen A =
    (ms : List Bool) (x : A) (fs : List A) →
    broadcast_true ms x fs ≡ choose ms (replicate (length ms) x) fs

-- If-then-else with a broadcast false value equals if-then-else with the list that repeats it for
-- each entry of the mask.
abbrev pub RepeatsOtherwise : Type 0 → Type 0
RepeatsOtherwise A =
    (ms : List Bool) (ts : List A) (x : A) →
    broadcast_false ms ts x ≡ choose ms ts (replicate (length ms) x)

-- If-then-else with two broadcast values equals if-then-else with the lists that repeat them for
-- each entry of the mask.
abbrev pub RepeatsBoth : Type 0 → Type 0
RepeatsBoth A =
    (ms : List Bool) (x y : A) →
    broadcast_both ms x y ≡ choose ms (replicate (length ms) x) (replicate (length ms) y)

-- ---- dictionaries

-- If each non-null key is in bounds, the propagated keys decode with the non-null values to the
-- same rows as before.
abbrev pub PropagationDecodes : Type 0
PropagationDecodes =
    (keys values : List Value) → all_within (length values) keys ≡ true →
    decode (propagated_keys keys values) (valid_values values) ≡ decode keys values

-- None of the remaining values is null.
abbrev pub PropagationLeavesNoNull : Type 0
PropagationLeavesNoNull = (values : List Value) → count_by is_null (valid_values values) ≡ 0
