-- The row references of a run under bits, split after bits that are equal.
use Rattle.sel_gather.proofs.Common.{◌≡◌, ℕ, zero, suc, ◌+◌, ◌-◌, ◌≤◌, ◌<◌, Bool, true, false, List, ◌∷◌, ◌++◌, map, replicate, Option, Some, None, refl, ap}
use Rattle.sel_gather.proofs.Common.{sym, ◌∙◌, arith, get_or, if◌then◌else◌, map-append, kept_by, picks_of, unrolled_from}
use Rattle.sel_gather.{specs.KeptPicks.AreEqualBits}
use Rattle.sel_runs.proofs.RunLists.{unrolled_from-append}

-- ---- row references under equal bits

module _ (bits : List Bool) where
  pub none_kept : (o : Option ℕ) (a n : ℕ) → ((i : ℕ) → i < n → get_or bits (a + i) false ≡ false) → map (kept_by bits) (unrolled_from o a n) ≡ replicate n None
  none_kept None a zero low = refl
  none_kept None a (suc n) low = ap (λ l. None ∷ l) (none_kept None a n (λ i h. low i (omega arith)))
  none_kept (Some s) a zero low = refl
  none_kept (Some s) a (suc n) low =
      let first : a + 0 ≡ a = omega arith in
      let here : get_or bits a false ≡ false = ap (λ k. get_or bits k false) (sym first) ∙ low 0 (omega arith) in
      let rest = none_kept (Some s) (a + 1) n (λ i h. let next : a + 1 + i ≡ a + suc i = omega arith in ap (λ k. get_or bits k false) next ∙ low (suc i) (omega arith)) in
      ap (λ (b : Bool). (let p : Option (ℕ × ℕ) = if b then Some (s, a) else None in p) ∷ map (kept_by bits) (picks_of s (a + 1) n)) here ∙ ap (λ (l : List (Option (ℕ × ℕ))). None ∷ l) rest

  pub all_kept : (o : Option ℕ) (a n : ℕ) → ((i : ℕ) → i < n → get_or bits (a + i) false ≡ true) → map (kept_by bits) (unrolled_from o a n) ≡ unrolled_from o a n
  all_kept None a zero high = refl
  all_kept None a (suc n) high = ap (λ (l : List (Option (ℕ × ℕ))). None ∷ l) (all_kept None a n (λ i h. high i (omega arith)))
  all_kept (Some s) a zero high = refl
  all_kept (Some s) a (suc n) high =
      let first : a + 0 ≡ a = omega arith in
      let here : get_or bits a false ≡ true = ap (λ k. get_or bits k false) (sym first) ∙ high 0 (omega arith) in
      let rest = all_kept (Some s) (a + 1) n (λ i h. let next : a + 1 + i ≡ a + suc i = omega arith in ap (λ k. get_or bits k false) next ∙ high (suc i) (omega arith)) in
      ap (λ (b : Bool). (let p : Option (ℕ × ℕ) = if b then Some (s, a) else None in p) ∷ map (kept_by bits) (picks_of s (a + 1) n)) here ∙ ap (λ (l : List (Option (ℕ × ℕ))). Some (s, a) ∷ l) rest

-- ---- a run, split after equal bits

pub run_split : (o : Option ℕ) (a n len : ℕ) → n ≤ len → unrolled_from o a len ≡ unrolled_from o a n ++ unrolled_from o (a + n) (len - n)
run_split o a n len within =
    let count : len ≡ n + (len - n) = omega arith in
    ap (unrolled_from o a) count ∙ unrolled_from-append o a n (len - n)

module _ (bits : List Bool) (o : Option ℕ) (a n len : ℕ) (within : n ≤ len) (equal : AreEqualBits bits a n) where
  abbrev rest : List (Option (ℕ × ℕ))
  rest = map (kept_by bits) (unrolled_from o (a + n) (len - n))

  mapped : map (kept_by bits) (unrolled_from o a len) ≡ map (kept_by bits) (unrolled_from o a n) ++ rest
  mapped = ap (map (kept_by bits)) (run_split o a n len within) ∙ map-append (kept_by bits) (unrolled_from o a n) (unrolled_from o (a + n) (len - n))

  pub rows_first : get_or bits a false ≡ true → map (kept_by bits) (unrolled_from o a len) ≡ unrolled_from o a n ++ rest
  rows_first there = mapped ∙ ap (λ l. l ++ rest) (all_kept bits o a n (λ i h. equal i h ∙ there))

  pub nulls_first : get_or bits a false ≡ false → map (kept_by bits) (unrolled_from o a len) ≡ replicate n None ++ rest
  nulls_first none = mapped ∙ ap (λ l. l ++ rest) (none_kept bits o a n (λ i h. equal i h ∙ none))
