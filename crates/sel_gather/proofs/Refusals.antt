-- Errors for view columns, and gathered strings.
use Rattle.sel_gather.proofs.Common.{both, ◌≡◌, ℕ, true, zero, suc, List, [], ◌∷◌, All, map, length, get_or, Option, refl, arith, length-append, flat_map}
use Rattle.sel_gather.proofs.Common.{list_all, BufferLimit, PolarsError, OutOfMemory, SizeLimit, Column, and_first, and_second, IsLimitOrMemory, ExceedsBuffers}
use Rattle.sel_gather.proofs.Common.{buffer_count, buffers_joined, pick, IsBufferLimitOrMemory, Value, Null}
use Rattle.sel_arrow.specs.Texts.{is_text}
use Rattle.sel_gather.proofs.EachRow.{picked_all, sources_all}

-- The number of concatenated buffers is the sum over the columns.
pub joined_count : {S A R : Type 0} (part : S → List A) (column : R → Column) (ss : List S) (rs : List R) → map (λ s. length (part s)) ss ≡ map (λ r. buffer_count (column r)) rs →
    length (flat_map part ss) ≡ buffers_joined (map column rs)
joined_count part column [] [] e = refl
joined_count part column [] (r ∷ rs) e = absurd (cc e)
joined_count part column (s ∷ ss) [] e = absurd (cc e)
joined_count part column (s ∷ ss) (r ∷ rs) e =
    let first : length (part s) ≡ buffer_count (column r) = cc e in
    let rest : map (λ s. length (part s)) ss ≡ map (λ r. buffer_count (column r)) rs = cc e in
    omega (arith, length-append (part s) (flat_map part ss), joined_count part column ss rs rest, first)

pub refused_at : (count n : ℕ) (fault : PolarsError) → count ≡ n → IsBufferLimitOrMemory count fault → IsLimitOrMemory (ExceedsBuffers n) fault
refused_at count n OutOfMemory e h = tt
refused_at count n (SizeLimit BufferLimit) e h = omega (arith, e, h)
refused_at count n _ e h = absurd h

-- ---- strings

text_at : (xs : List Value) (i : ℕ) → list_all is_text xs ≡ true → is_text (get_or xs i Null) ≡ true
text_at [] i h = refl
text_at (x ∷ xs) zero h = and_first (is_text x) (list_all is_text xs) h
text_at (x ∷ xs) (suc i) h = text_at xs i (and_second (is_text x) (list_all is_text xs) h)

all_texts : (xs : List Value) → ((k : ℕ) → is_text (get_or xs k Null) ≡ true) → list_all is_text xs ≡ true
all_texts [] all = refl
all_texts (x ∷ xs) all = both (is_text x) (list_all is_text xs) (all 0) (all_texts xs (λ k. all (suc k)))

-- Rows gathered from string columns are strings.
pub texts_picked : {S : Type 0} (f : S → List Value) (ss : List S) (ps : List (Option (ℕ × ℕ))) → All (λ s. list_all is_text (f s) ≡ true) ss → list_all is_text (pick Null (map f ss) ps) ≡ true
texts_picked f ss ps h =
    all_texts (pick Null (map f ss) ps) (picked_all (λ v. is_text v ≡ true) refl (map f ss) (sources_all (λ v. is_text v ≡ true) refl f ss (λ i d below k. text_at (f (get_or ss i d)) k (h i d below))) ps)
