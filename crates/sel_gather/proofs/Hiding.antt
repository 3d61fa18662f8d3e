-- Rows gathered as values and validities.
use Rattle.sel_gather.proofs.Common.{◌≡◌, ℕ, ◌<◌, All, Bool, true, false, List, [], ◌∷◌, length, map, get_or, Option, Some, None, zero, suc, refl, ap, sym, ◌∙◌}
use Rattle.sel_gather.proofs.Common.{arith, if◌then◌else◌, All-head, All-tail, Bits, hidden, masked, Covers, valid_at, Value, Null, length-mapped}
use Rattle.sel_gather.proofs.Common.{null_mapped, valid_mapped, pick, PickFits, HasBit, bits_found}
use Rattle.sel_runs.proofs.BitPicks.{bits_fit}

module _ {S A : Type 0} (values : S → List A) (valid : S → Option Bits) (covers : (s : S) → Covers (valid s) (length (values s))) (f : A → Value) (d : A) where
  abbrev pub rows_in : S → List Value
  rows_in s = masked (valid s) (map f (values s))

  same_length : (ss : List S) (s : ℕ) → length (get_or (map rows_in ss) s []) ≡ length (get_or (map values ss) s [])
  same_length [] s = refl
  same_length (x ∷ ss) zero = length-mapped f (values x) (valid x)
  same_length (x ∷ ss) (suc s) = same_length ss s

  value_fits : (ss : List S) (p : Option (ℕ × ℕ)) → PickFits (map rows_in ss) p → PickFits (map values ss) p
  value_fits ss None h = h
  value_fits ss (Some p) h = omega (arith, h, same_length ss p.0)

  -- Row references that fit the rows fit the values.
  pub values_fit : (ss : List S) (ps : List (Option (ℕ × ℕ))) → All (PickFits (map rows_in ss)) ps → All (PickFits (map values ss)) ps
  values_fit ss ps fits k e h = value_fits ss (get_or ps k e) (fits k e h)

  row_of : (s : S) (i : ℕ) → i < length (values s) → get_or (rows_in s) i Null ≡ (if valid_at (valid s) i then f (get_or (values s) i d) else Null)
  row_of s i h = cases (valid_at (valid s) i) refl
    where
      cases : (b : Bool) → valid_at (valid s) i ≡ b → get_or (rows_in s) i Null ≡ (if valid_at (valid s) i then f (get_or (values s) i d) else Null)
      cases true e = valid_mapped f (values s) (valid s) i d e h (covers s) ∙ ap (λ b. if b then f (get_or (values s) i d) else Null) (sym e)
      cases false e = null_mapped f (values s) (valid s) i e h (covers s) ∙ ap (λ b. if b then f (get_or (values s) i d) else Null) (sym e)

  row_found : (ss : List S) (s i : ℕ) → i < length (get_or (map values ss) s []) →
      get_or (get_or (map rows_in ss) s []) i Null ≡ (if valid_at (get_or (map valid ss) s None) i then f (get_or (get_or (map values ss) s []) i d) else Null)
  row_found [] s i h = absurd (omega (arith, h))
  row_found (x ∷ ss) zero i h = row_of x i h
  row_found (x ∷ ss) (suc s) i h = row_found ss s i h

  -- The gathered rows are the gathered values under the gathered validity.
  pub rows_picked : (ss : List S) (ps : List (Option (ℕ × ℕ))) → All (PickFits (map values ss)) ps →
      hidden (bits_found (map valid ss) ps) (map f (pick d (map values ss) ps)) ≡ pick Null (map rows_in ss) ps
  rows_picked ss [] fits = refl
  rows_picked ss (None ∷ ps) fits = ap (λ l. Null ∷ l) (rows_picked ss ps (All-tail (PickFits (map values ss)) None ps fits))
  rows_picked ss (Some p ∷ ps) fits =
      let here = row_found ss p.0 p.1 (All-head (PickFits (map values ss)) (Some p) ps fits) in
      let rest = rows_picked ss ps (All-tail (PickFits (map values ss)) (Some p) ps fits) in
      (λ i. sym here i ∷ rest i)

-- ---- bitmaps that are always present

module _ {S : Type 0} (bits : S → Bits) where
  same_bits : (s : S) → Covers (Some (bits s)) (length (bits s).bits)
  same_bits s v e = let same : bits s ≡ v = cc e in ap (λ b. length b.bits) (sym same)

  -- Row references that fit the booleans refer to bits of the bitmaps.
  pub truths_fit : (ss : List S) (ps : List (Option (ℕ × ℕ))) → All (PickFits (map (λ s. (bits s).bits) ss)) ps → All (HasBit (map (λ s. Some (bits s)) ss)) ps
  truths_fit ss ps fits = bits_fit (λ s. (bits s).bits) (λ s. Some (bits s)) same_bits ss ps fits

  truth_found : (ss : List S) (s i : ℕ) → i < length (get_or (map (λ s. (bits s).bits) ss) s []) →
      valid_at (get_or (map (λ s. Some (bits s)) ss) s None) i ≡ get_or (get_or (map (λ s. (bits s).bits) ss) s []) i false
  truth_found [] s i h = absurd (omega (arith, h))
  truth_found (x ∷ ss) zero i h = refl
  truth_found (x ∷ ss) (suc s) i h = truth_found ss s i h

  pub truths_found : (ss : List S) (ps : List (Option (ℕ × ℕ))) → All (PickFits (map (λ s. (bits s).bits) ss)) ps → bits_found (map (λ s. Some (bits s)) ss) ps ≡ pick false (map (λ s. (bits s).bits) ss) ps
  truths_found ss [] fits = refl
  truths_found ss (None ∷ ps) fits = ap (λ l. false ∷ l) (truths_found ss ps (All-tail (PickFits (map (λ s. (bits s).bits) ss)) None ps fits))
  truths_found ss (Some p ∷ ps) fits =
      let here = truth_found ss p.0 p.1 (All-head (PickFits (map (λ s. (bits s).bits) ss)) (Some p) ps fits) in
      let rest = truths_found ss ps (All-tail (PickFits (map (λ s. (bits s).bits) ss)) (Some p) ps fits) in
      (λ i. here i ∷ rest i)
