-- Runs of set bits in a word.
use Rattle.std.proofs.lemmas.Grind.{common_steps}
use Rattle.sel_filter.proofs.Common.{◌≡◌, ℕ, zero, suc, ◌+◌, ◌-◌, ◌*◌, ◌/◌, ◌^◌, ◌<◌, ◌≤◌, ◌∙◌, sym, refl, ap, arith, List, [], ◌∷◌, ◌++◌, length, take, drop}
use Rattle.sel_filter.proofs.Common.{replicate, Bool, true, false, ◌==◌, bit_at, bit_at-suc, bits, select, starts_after, bits_suc, bits_zero, bits_split}
use Rattle.sel_filter.proofs.WordLists.{bits_of_zero}

-- A word whose t lowest bits are all b.
bits_equal : (b t w : ℕ) → ((i : ℕ) → i < t → bit_at w i ≡ b) → bits t w ≡ replicate t (b == 1)
bits_equal b zero w same = bits_zero w
bits_equal b (suc t) w same =
    bits_suc t w
    ∙ ap (λ x. (x == 1) ∷ bits t (w / 2)) (same 0 (omega arith))
    ∙ ap (λ l. (b == 1) ∷ l) (bits_equal b t (w / 2) (λ i lt. sym (bit_at-suc w i) ∙ same (suc i) (omega arith)))

pub bits_after : (b t n w : ℕ) → t ≤ n → ((i : ℕ) → i < t → bit_at w i ≡ b) → bits n w ≡ replicate t (b == 1) ++ bits (n - t) (w / 2 ^ t)
bits_after b t n w le same =
    let e : n ≡ t + (n - t) = omega arith in
    ap (λ k. bits k w) e ∙ bits_split t (n - t) w ∙ ap (λ l. l ++ bits (n - t) (w / 2 ^ t)) (bits_equal b t w same)

module _ {A : Type 0} where
  pub select_skip : (xs : List A) (t : ℕ) (ms : List Bool) → select xs (replicate t false ++ ms) ≡ select (drop t xs) ms
  select_skip (x ∷ xs) (suc t) ms = select_skip xs t ms
  select_skip xs t ms = grind (arith, common_steps)

  pub select_run : (xs : List A) (r : ℕ) (ms : List Bool) → r ≤ length xs → select xs (replicate r true ++ ms) ≡ take r xs ++ select (drop r xs) ms
  select_run (x ∷ xs) (suc r) ms le = ap (λ l. x ∷ l) (select_run xs r ms (omega arith))
  select_run xs r ms le = grind arith

pub starts_skip : (t : ℕ) (ms : List Bool) → starts_after false (replicate t false ++ ms) ≡ starts_after false ms
starts_skip zero ms = refl
starts_skip (suc t) ms = starts_skip t ms

starts_run : (r : ℕ) (ms : List Bool) → starts_after true (replicate r true ++ ms) ≡ starts_after true ms
starts_run zero ms = refl
starts_run (suc r) ms = starts_run r ms

-- A run of any length is one start.
pub starts_more : (r : ℕ) (ms : List Bool) → 0 < r → starts_after false (replicate r true ++ ms) ≡ 1 + starts_after true ms
starts_more r ms some = grind (arith, starts_run)

-- Before a false bit, or at the end, the preceding bit does not matter.
pub starts_false : (n w : ℕ) → bit_at w 0 ≡ 0 → starts_after true (bits n w) ≡ starts_after false (bits n w)
starts_false zero w low = ap (starts_after true) (bits_zero w) ∙ sym (ap (starts_after false) (bits_zero w))
starts_false (suc n) w low = grind (arith, bits_suc)

-- A run that is cut at a boundary adds at most one start.
pub starts_cut : (ms : List Bool) → starts_after false ms ≤ starts_after true ms + 1
starts_cut [] = omega arith
starts_cut (true ∷ ms) = omega arith
starts_cut (false ∷ ms) = omega arith

pub starts_le : (b : Bool) (ms : List Bool) → starts_after true ms ≤ starts_after b ms
starts_le true ms = omega arith
starts_le false [] = omega arith
starts_le false (true ∷ ms) = omega arith
starts_le false (false ∷ ms) = omega arith

-- The starts of two lists, of which the second follows a true entry, are at most those of their
-- concatenation.
pub starts_append : (b : Bool) (xs ys : List Bool) → starts_after b xs + starts_after true ys ≤ starts_after b (xs ++ ys)
starts_append b [] ys = omega (arith, starts_le b ys)
starts_append b (false ∷ xs) ys = starts_append false xs ys
starts_append true (true ∷ xs) ys = starts_append true xs ys
starts_append false (true ∷ xs) ys = omega (arith, starts_append true xs ys)

pub starts_padded : (b : Bool) (xs : List Bool) (k : ℕ) → starts_after b (xs ++ replicate k false) ≡ starts_after b xs
starts_padded b [] zero = refl
starts_padded b [] (suc k) = starts_padded false [] k
starts_padded b (false ∷ xs) k = starts_padded false xs k
starts_padded true (true ∷ xs) k = starts_padded true xs k
starts_padded false (true ∷ xs) k = ap (λ n. 1 + n) (starts_padded true xs k)

pub starts_of_zero : (n : ℕ) → starts_after false (bits n 0) ≡ 0
starts_of_zero n = ap (starts_after false) (bits_of_zero n) ∙ starts_padded false [] n

-- At most every second entry starts a run.
pub starts_half : (xs : List Bool) → (2 * starts_after false xs ≤ length xs + 1) × (2 * starts_after true xs ≤ length xs)
starts_half [] = (omega arith, omega arith)
starts_half (true ∷ xs) = let h = starts_half xs in (omega (arith, h.1), omega (arith, h.1))
starts_half (false ∷ xs) = let h = starts_half xs in (omega (arith, h.0), omega (arith, h.0))
