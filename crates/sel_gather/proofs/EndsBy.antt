-- The ends of concatenated parts: those of lists, and those of bytes.
use Rattle.sel_gather.proofs.Common.{◌≡◌, ℕ, zero, suc, ◌+◌, ◌≤◌, ◌<◌, List, [], ◌∷◌, ◌++◌, length, map, refl, ap, arith, get_or, length-append, append_assoc}
use Rattle.sel_gather.proofs.Common.{flat_map, common_steps, IsRising, Value, Bytes, rows_between, last_offset, pieces_after, items_in, item_ends}
use Rattle.sel_gather.proofs.Common.{byte_count, bytes_of, ends_from}

module _ {A : Type 0} (part : Value → List A) where
  -- The end of the part of each row, if the parts are appended to `start` entries.
  abbrev pub ends_by : ℕ → List Value → List ℕ
  ends_by start [] = []
  ends_by start (v ∷ vs) = (start + length (part v)) ∷ ends_by (start + length (part v)) vs

  pub ends_by-append : (start : ℕ) (a b : List Value) → ends_by start (a ++ b) ≡ ends_by start a ++ ends_by (start + length (flat_map part a)) b
  ends_by-append start [] b = let same : start + 0 ≡ start = omega arith in rw same refl
  ends_by-append start (v ∷ a) b = grind (arith, common_steps, length-append, (ends_by-append (start + length (part v)) a b))

  length-ends_by : (start : ℕ) (vs : List Value) → length (ends_by start vs) ≡ length vs
  length-ends_by start [] = refl
  length-ends_by start (v ∷ vs) = ap suc (length-ends_by (start + length (part v)) vs)

  above_start : (start : ℕ) (vs : List Value) (k : ℕ) → k < length (start ∷ ends_by start vs) → start ≤ get_or (start ∷ ends_by start vs) k 0
  above_start start vs zero h = omega arith
  above_start start [] (suc k) h = absurd (omega arith)
  above_start start (v ∷ vs) (suc k) h = let later = above_start (start + length (part v)) vs k (omega arith) in omega (arith, later)

  ends_climb : (start : ℕ) (vs : List Value) (j k : ℕ) → j ≤ k → k < length (start ∷ ends_by start vs) → get_or (start ∷ ends_by start vs) j 0 ≤ get_or (start ∷ ends_by start vs) k 0
  ends_climb start vs zero k le h = above_start start vs k h
  ends_climb start vs (suc j) zero le h = absurd (omega arith)
  ends_climb start [] (suc j) (suc k) le h = absurd (omega arith)
  ends_climb start (v ∷ vs) (suc j) (suc k) le h = ends_climb (start + length (part v)) vs j k (omega arith) (omega arith)

  pub ends_by_rise : (vs : List Value) → IsRising (0 ∷ ends_by 0 vs)
  ends_by_rise vs = record { some = omega arith; rising = ends_climb 0 vs }

  pub ends_by_between : (vs : List Value) → rows_between (0 ∷ ends_by 0 vs) ≡ length vs
  ends_by_between vs = omega (arith, length-ends_by 0 vs)

  last_end : (start : ℕ) (vs : List Value) → get_or (start ∷ ends_by start vs) (length vs) 0 ≡ start + length (flat_map part vs)
  last_end start [] = omega arith
  last_end start (v ∷ vs) = omega (arith, last_end (start + length (part v)) vs, length-append (part v) (flat_map part vs))

  pub ends_by_last : (vs : List Value) → last_offset (0 ∷ ends_by 0 vs) ≡ length (flat_map part vs)
  ends_by_last vs = rw ends_by_between (omega (arith, last_end 0 vs))

  -- The pieces after `before` are the parts.
  pub pieces_by : (before : List A) (vs : List Value) → pieces_after (length before) (ends_by (length before) vs) (before ++ flat_map part vs) ≡ map part vs
  pieces_by before [] = refl
  pieces_by before (v ∷ vs) = grind (arith, common_steps, length-append, append_assoc, (pieces_by (before ++ part v) vs))

-- The ends of lists, and of bytes.
pub list_ends : (start : ℕ) (vs : List Value) → item_ends start vs ≡ ends_by (items_in 0) start vs
list_ends start [] = refl
list_ends start (v ∷ vs) = ap (λ l. (start + length (items_in 0 v)) ∷ l) (list_ends (start + length (items_in 0 v)) vs)

pub length-bytes_of : (row : Value) → length (bytes_of row) ≡ byte_count row
length-bytes_of (Bytes bytes) = refl
length-bytes_of _ = refl

pub byte_ends : (start : ℕ) (vs : List Value) → ends_from start vs ≡ ends_by bytes_of start vs
byte_ends start [] = refl
byte_ends start (v ∷ vs) = rw (length-bytes_of v) (ap (λ l. (start + byte_count v) ∷ l) (byte_ends (start + byte_count v) vs))
