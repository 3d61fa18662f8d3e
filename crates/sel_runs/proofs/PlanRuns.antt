-- The row references of runs, one by one and as an iterator, and the bits at them.
use Rattle.sel_runs.proofs.Common.{common_steps, bit_found, ◌≡◌, All, ℕ, zero, suc, ◌+◌, ◌-◌, ◌%◌, ◌^◌, ◌<◌, ◌≤◌, false, List, ◌∷◌, length, take, replicate}
use Rattle.sel_runs.proofs.Common.{get_or, Option, Some, None, refl, ap, sym, subst, ◌∙◌, arith, ForSome, drop_more, All-get_or, length-map-range_with_len}
use Rattle.sel_runs.proofs.Common.{get_or-map-range_with_len, Bits, valid_at, HasBit, IsNear, bits_found, unrolled, unrolled_from, picks_of, part_bits, Run}
use Rattle.sel_runs.proofs.Gathers.{map-replicate}

first_pick : (s a b n : ℕ) → All IsNear (picks_of s a (suc n)) → b ≡ (a + 1) % 2 ^ 32 → picks_of s a (suc n) ≡ Some (s, a) ∷ picks_of s b n
first_pick s a b zero near e = refl
first_pick s a b (suc n) near e =
    let there : a + 1 < 2 ^ 32 = near 1 None (omega arith) (s, a + 1) refl in
    let same : a + 1 ≡ b = omega (arith, e, there) in
    ap (λ x. Some (s, a) ∷ picks_of s x (suc n)) same

abbrev pub first_of : Option ℕ → ℕ → Option (ℕ × ℕ)
first_of None a = None
first_of (Some s) a = Some (s, a)

-- The first row reference of a run, and those after it.
pub next_pick : (o : Option ℕ) (a n : ℕ) → 0 < n → All IsNear (unrolled_from o a n) → unrolled_from o a n ≡ first_of o a ∷ unrolled_from o ((a + 1) % 2 ^ 32) (n - 1)
next_pick o a zero some near = absurd (omega (arith, some))
next_pick None a (suc n) some near = let less : n ≡ suc n - 1 = omega arith in ap (λ m. None ∷ replicate m None) less
next_pick (Some s) a (suc n) some near = grind (arith, common_steps, first_pick)

-- ---- the bits of a run

bits_there : (vs : List (Option Bits)) (s a n : ℕ) → 0 < n → All (HasBit vs) (picks_of s a n) → (s < length vs) × ForSome (get_or vs s None) (λ v. a + n ≤ length v.bits)
bits_there vs s a n some fits =
    let long = length-map-range_with_len (λ i. let p : Option (ℕ × ℕ) = Some (s, i) in p) a n in
    let last = All-get_or (HasBit vs) (picks_of s a n) (n - 1) None (omega (arith, long)) fits in
    let place : get_or (picks_of s a n) (n - 1) None ≡ Some (s, a + (n - 1)) = get_or-map-range_with_len (λ i. Some (s, i)) a n (n - 1) (a + (n - 1)) None (omega arith) refl in
    let here : HasBit vs (Some (s, a + (n - 1))) = subst (HasBit vs) place last in
    (here.0, λ v is. omega (arith, here.1 v is))

bits_run : (vs : List (Option Bits)) (s : ℕ) (v : Option Bits) → get_or vs s None ≡ v → (a n : ℕ) → ForSome v (λ b. a + n ≤ length b.bits) → part_bits a n v ≡ bits_found vs (picks_of s a n)
bits_run vs s None is a zero fits = refl
bits_run vs s None is a (suc n) fits = (λ i. valid_at (sym is i) a ∷ bits_run vs s None is (a + 1) n (λ b e. absurd cc) i)
bits_run vs s (Some b) is a zero fits = refl
bits_run vs s (Some b) is a (suc n) fits =
    let inside = fits b refl in
    let next : part_bits (a + 1) n (Some b) ≡ bits_found vs (picks_of s (a + 1) n) =
    bits_run vs s (Some b) is (a + 1) n (λ c e. let same : b ≡ c = cc in omega (arith, inside, ap (λ (x : Bits). length x.bits) same))
    in
    ap (take (suc n)) (drop_more b.bits a false (omega (arith, inside))) ∙ (λ i. valid_at (sym is i) a ∷ next i)

pub null_found : (vs : List (Option Bits)) (r : Run) → r.source ≡ None → replicate r.len false ≡ bits_found vs (unrolled r)
null_found vs r is = rw is (sym (map-replicate (bit_found vs) r.len None))

-- The bits of a run with a source.
module _ (vs : List (Option Bits)) (r : Run) (s : ℕ) (is : r.source ≡ Some s) (some : 0 < r.len) (fits : All (HasBit vs) (unrolled r)) where
  pub run_there : (s < length vs) × ForSome (get_or vs s None) (λ v. r.start + r.len ≤ length v.bits)
  run_there = bits_there vs s r.start r.len some (subst (λ o. All (HasBit vs) (unrolled_from o r.start r.len)) is fits)

  pub run_found : part_bits r.start r.len (get_or vs s None) ≡ bits_found vs (unrolled r)
  run_found = rw is (bits_run vs s (get_or vs s None) refl r.start r.len run_there.1)
