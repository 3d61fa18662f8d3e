-- Validity bits of gathered rows, and row references to null rows.
use Rattle.sel_gather.proofs.Common.{common_steps, ◌≡◌, ◌≢◌, All, Bor, ℕ, zero, suc, ◌+◌, ◌≤◌, ◌<◌, Bool, true, false, List, [], ◌∷◌, ◌++◌, length, map, replicate, Option, Some}
use Rattle.sel_gather.proofs.Common.{None, refl, ap, sym, ◌∙◌, arith, get_or, length-map, get_or-map, Bits, IsValidityOf, rows, Shape, of_null}
use Rattle.sel_gather.proofs.Common.{Value, Null, is_valid, validities, Column, cleared, kept_by, found, pick, PickFits, unrolled, picks_of, Run, subst}
use Rattle.sel_gather.proofs.Common.{All-get_or, get_or-replicate, type_of}
use Rattle.sel_runs.proofs.Gathers.{map-replicate}
use Rattle.sel_gather.proofs.{KeptBlocks.all_kept, ItemRuns.rows_of, ItemRuns.source_there}
use Rattle.sel_runs.proofs.RunLists.{run_there, pick_nulls}

-- ---- the validity of the rows

pub told_length : (s : Shape) (v : Option Bits) (vs : List Value) → s ≢ of_null → IsValidityOf s v vs → (b : Bits) → v ≡ Some b → length b.bits ≡ length vs
told_length of_null v vs other tells b is = absurd (other refl)
told_length s None vs other tells b is = absurd cc
told_length s (Some x) vs other tells b is = grind (arith, common_steps, length-map)

pub told_bits : (s : Shape) (v : Option Bits) (vs : List Value) → s ≢ of_null → IsValidityOf s v vs → (b : Bits) → v ≡ Some b → validities vs ≡ b.bits
told_bits of_null v vs other tells b is = absurd (other refl)
told_bits s None vs other tells b is = absurd cc
told_bits s (Some x) vs other tells b is = grind (arith, common_steps)

pub told_valid : (s : Shape) (v : Option Bits) (vs : List Value) → s ≢ of_null → IsValidityOf s v vs → v ≡ None → validities vs ≡ replicate (length vs) true
told_valid of_null v vs other tells is = absurd (other refl)
told_valid s None vs other tells is = tells
told_valid s (Some x) vs other tells is = absurd cc

pub bit_at : (vs : List Value) (k : ℕ) → get_or (validities vs) k false ≡ is_valid (get_or vs k Null)
bit_at [] k = refl
bit_at (v ∷ vs) zero = refl
bit_at (v ∷ vs) (suc k) = bit_at vs k

-- ---- the source of a run that is not empty

module _ (cs : List (Bor Column)) (r : Run) (s : ℕ) (c : Bor Column) (is : r.source ≡ Some s) (fits : All (PickFits (rows_of cs)) (unrolled r)) (some : r.len ≡ 0 → ⊥) (same : c ≡ get_or cs s c) where
  split_source : s < length cs
  split_source = source_there cs r s 0 is fits (omega (arith, some))

  -- A property of all sources is a property of the source of the run.
  pub split_all : (P : Bor Column → Type 0) → All P cs → P c
  split_all P all = subst P (sym same) (All-get_or P cs s c split_source all)

  at_source : get_or (rows_of cs) s [] ≡ rows c.now
  at_source = get_or-map (λ x. rows x.now) cs s c [] split_source ∙ ap (λ (x : Bor Column). rows x.now) (sym same)

  pub split_inside : r.start + r.len ≤ length (rows c.now)
  split_inside =
      let there = run_there (rows_of cs) r s is some fits in
      omega (arith, there.1, ap length at_source)

  found_at : (k : ℕ) → found Null (rows_of cs) (Some (s, k)) ≡ get_or (rows c.now) k Null
  found_at k = ap (λ l. get_or l k Null) at_source

  kept_is : (bits : List Bool) → validities (rows c.now) ≡ bits → (k : ℕ) → kept_by bits (Some (s, k)) ≡ cleared (rows_of cs) (Some (s, k))
  kept_is bits tells k = grind (arith, common_steps, rows, bit_at, found_at)

  kept_picks : (bits : List Bool) → validities (rows c.now) ≡ bits → (a n : ℕ) → map (kept_by bits) (picks_of s a n) ≡ map (cleared (rows_of cs)) (picks_of s a n)
  kept_picks bits tells a zero = refl
  kept_picks bits tells a (suc n) = grind (arith, common_steps, kept_is, (kept_picks bits tells (a + 1) n))

  kept_bits : (bits : List Bool) → validities (rows c.now) ≡ bits → map (kept_by bits) (unrolled r) ≡ map (cleared (rows_of cs)) (unrolled r)
  kept_bits bits tells = rw is (kept_picks bits tells r.start r.len)

  module _ (known : All (λ x. type_of x.now ≢ of_null) cs) (v : Option Bits) (tells : IsValidityOf (type_of c.now) v (rows c.now)) where
    other : type_of c.now ≢ of_null
    other = split_all (λ x. type_of x.now ≢ of_null) known

    pub bits_long : (b : Bits) → v ≡ Some b → length b.bits ≡ length (rows c.now)
    bits_long b there = told_length (type_of c.now) v (rows c.now) other tells b there

    -- Row references under the validity bits are the cleared row references.
    pub kept_run : (b : Bits) → v ≡ Some b → map (kept_by b.bits) (unrolled r) ≡ map (cleared (rows_of cs)) (unrolled r)
    kept_run b there = kept_bits b.bits (told_bits (type_of c.now) v (rows c.now) other tells b there)

    -- Row references to valid rows are unchanged.
    pub whole_run : v ≡ None → unrolled r ≡ map (cleared (rows_of cs)) (unrolled r)
    whole_run none =
        let count = length (rows c.now) in
        sym (all_kept (replicate count true) r.source r.start r.len (λ i h. get_or-replicate count (r.start + i) true false (omega (arith, split_inside, h))))
        ∙ kept_bits (replicate count true) (told_valid (type_of c.now) v (rows c.now) other tells none)

    -- The first rows under the validity bits, followed by the other row references.
    pub kept_first : (b : Bits) → v ≡ Some b → (first left : Run) → map (kept_by b.bits) (unrolled r) ≡ unrolled first ++ map (kept_by b.bits) (unrolled left) → left.source ≡ r.source →
        map (cleared (rows_of cs)) (unrolled r) ≡ unrolled first ++ map (cleared (rows_of cs)) (unrolled left)
    kept_first b there first left split same =
        let tells = told_bits (type_of c.now) v (rows c.now) other tells b there in
        sym (kept_run b there) ∙ split ∙ ap (λ l. unrolled first ++ l) (rw (same, is) (kept_picks b.bits tells left.start left.len))

-- ---- runs of nulls, and empty runs

pub null_bits : (xss : List (List Value)) (r : Run) → r.source ≡ None → replicate r.len false ≡ validities (pick Null xss (unrolled r))
null_bits xss r is = sym (map-replicate is_valid r.len Null) ∙ ap validities (sym (pick_nulls Null xss r is))

pub null_picks : (xss : List (List Value)) (r : Run) → r.source ≡ None → unrolled r ≡ map (cleared xss) (unrolled r)
null_picks xss r is = rw is (sym (map-replicate (cleared xss) r.len None))
