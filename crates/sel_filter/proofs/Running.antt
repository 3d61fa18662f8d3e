-- The invariant of the loop over the runs of a word, over plain variables.
use Rattle.sel_filter.proofs.Common.{◌≡◌, ℕ, ◌+◌, ◌-◌, ◌/◌, ◌^◌, ◌<◌, ◌≤◌, ◌∙◌, sym, ap, subst, ⊎_elim, arith, List, ◌++◌, length, take, drop, replicate, true}
use Rattle.sel_filter.proofs.Common.{false, append_assoc, bit_at, trailing_zeros, w64, cases_lt, shr-shr, bit_at_above, bit_at-trailing_zeros, length-drop}
use Rattle.sel_filter.proofs.Common.{bits, select, starts_after, bit_at_shr}
use Rattle.std.proofs.Common.{zero-add}
use Rattle.std.specs.Int.{trailing_ones}
use Rattle.std.proofs.lemmas.Nat.{shr_below, shr_le}
use lib.Count.{trailing_of_zero}
use Rattle.std.proofs.lemmas.Nat.Bits.{bit_at-trailing_ones, bit_at_ones}
use Rattle.std.proofs.lemmas.List.{drop-drop}
use Rattle.sel_filter.proofs.WordLists.{none_more}
use Rattle.sel_filter.proofs.WordRuns.{bits_after, select_skip, select_run, starts_skip, starts_more, starts_false, starts_of_zero}

-- The items and what the remaining bits select are the target.
pub record IsRunning {A : Type 0} (source target items : List A) (at rest : ℕ) : Type 0 where
  pub within : at ≤ length source
  pub small : rest < 2 ^ (length source - at)
  pub gives : items ++ select (drop at source) (bits (length source - at) rest) ≡ target

-- The runs in the remaining bits are the copies to come.
abbrev pub CountsRuns : {A : Type 0} → List A → ℕ → ℕ → ℕ → ℕ → Type 0
CountsRuns source total copies at rest = copies + starts_after false (bits (length source - at) rest) ≡ total

-- The lowest bits of a word are t zeros, then r ones, then a zero.
pub record IsRun (rest t r : ℕ) : Type 0 where
  pub zeros : (i : ℕ) → i < t → bit_at rest i ≡ 0
  pub ones : (i : ℕ) → i < r → bit_at (rest / 2 ^ t) i ≡ 1
  pub some : 0 < r
  pub ends : bit_at (rest / 2 ^ t / 2 ^ r) 0 ≡ 0

module _ {A : Type 0} (source target items : List A) (at rest t r : ℕ) (run : IsRun rest t r) (was : IsRunning source target items at rest) where
  pub run_within : at + t + r ≤ length source
  run_within =
      let last = run.ones (r - 1) (omega (arith, run.some)) in
      grind (arith, bit_at_shr rest t (r - 1), last, run.some, was.within, bit_at_above rest (length source - at) (r - 1 + t) was.small)

  bits_are : bits (length source - at) rest ≡ replicate t false ++ (replicate r true ++ bits (length source - (at + t + r)) (rest / 2 ^ t / 2 ^ r))
  bits_are =
      let e : length source - at - t - r ≡ length source - (at + t + r) = omega arith in
      bits_after 0 t (length source - at) rest (omega (arith, run_within)) run.zeros
      ∙ ap (λ l. replicate t false ++ l) (bits_after 1 r (length source - at - t) (rest / 2 ^ t) (omega (arith, run_within)) run.ones ∙ ap (λ k. replicate r true ++ bits k (rest / 2 ^ t / 2 ^ r)) e)

  pub starts_one : starts_after false (bits (length source - at) rest) ≡ 1 + starts_after false (bits (length source - (at + t + r)) (rest / 2 ^ t / 2 ^ r))
  starts_one = grind (arith, bits_are, starts_skip, starts_more, starts_false)

  selects : select (drop at source) (bits (length source - at) rest) ≡ take r (drop (at + t) source) ++ select (drop (at + t + r) source) (bits (length source - (at + t + r)) (rest / 2 ^ t / 2 ^ r))
  selects = grind (arith, bits_are, select_skip, select_run, length-drop, run_within, drop-drop)

  pub running_next : IsRunning source target (items ++ take r (drop (at + t) source)) (at + t + r) (rest / 2 ^ t / 2 ^ r)
  running_next = grind (arith, run_within, shr_below, append_assoc, selects)

  pub counts_next : (total copies : ℕ) → CountsRuns source total copies at rest → CountsRuns source total (copies + 1) (at + t + r) (rest / 2 ^ t / 2 ^ r)
  counts_next total copies counted = omega (arith, counted, starts_one)

  pub copies_left : (total copies : ℕ) → CountsRuns source total copies at rest → copies < total
  copies_left total copies counted = omega (arith, counted, starts_one)

pub running_last : {A : Type 0} (source target items : List A) (at rest : ℕ) → rest ≡ 0 → IsRunning source target items at rest → items ≡ target
running_last source target items at rest none was = none_more (drop at source) items (length source - at) rest none ∙ was.gives

pub counts_last : {A : Type 0} (source : List A) (total copies at rest : ℕ) → rest ≡ 0 → CountsRuns source total copies at rest → copies ≡ total
counts_last source total copies at rest none counted = grind (arith, starts_of_zero)

-- The lowest run of a word that is not 0.
pub lowest_run : (rest : ℕ) → 0 < rest → rest < 2 ^ 64 → IsRun rest (trailing_zeros w64 rest) (trailing_ones w64 (rest / 2 ^ trailing_zeros w64 rest))
lowest_run rest some fits =
    let z = bit_at-trailing_zeros w64 rest some fits in
    let t = trailing_zeros w64 rest in
    let x = rest / 2 ^ t in
    let first : bit_at x 0 ≡ 1 = bit_at_shr rest t 0 ∙ ap (bit_at rest) (zero-add t) ∙ z.1 in
    let here : bit_at x 0 ≡ 1 → (r : ℕ) → ((i : ℕ) → i < r → bit_at x i ≡ 1) → 0 < r → bit_at (x / 2 ^ r) 0 ≡ 0 → IsRun rest t r =
    λ low r ones some ends. record { zeros = z.2; ones = ones; some = some; ends = ends } in
    ⊎_elim
    (λ less.
    let o = bit_at-trailing_ones w64 x less in
    let r = trailing_ones w64 x in
    here first r o.2 (grind (arith, o.1, first)) (bit_at_shr x r 0 ∙ ap (bit_at x) (zero-add r) ∙ o.1))
    (λ all.
    let full : x ≡ 2 ^ 64 - 1 = omega (arith, shr_le rest t) in
    let none : 2 ^ 64 - 1 - x ≡ 0 = omega arith in
    let long : trailing_ones w64 x ≡ 64 = ap (trailing_zeros w64) none ∙ trailing_of_zero 64 in
    subst (λ r. IsRun rest t r) (sym long)
    (here first 64 (λ i lt. ap (λ y. bit_at y i) full ∙ bit_at_ones 64 i lt) (omega arith) (ap (λ y. bit_at (y / 2 ^ 64) 0) full)))
    (cases_lt (x + 1) (2 ^ 64))

-- The code shifts out a run in two steps, since a run can have 64 bits.
pub shifted_away : (x r : ℕ) → 0 < r → x / 2 ^ (r - 1) / 2 ^ 1 ≡ x / 2 ^ r
shifted_away x r some = let e : r - 1 + 1 ≡ r = omega arith in shr-shr x (r - 1) 1 ∙ ap (λ j. x / 2 ^ j) e

-- The run that the code reads.
pub run_of : (rest r : ℕ) → 0 < rest → rest < 2 ^ 64 → r ≡ trailing_ones w64 (rest / 2 ^ trailing_zeros w64 rest) → IsRun rest (trailing_zeros w64 rest) r
run_of rest r some fits is = subst (IsRun rest (trailing_zeros w64 rest)) (sym is) (lowest_run rest some fits)

-- The next run is within the source, and not empty.
pub run_inside : {A : Type 0} (source target items : List A) (at rest r : ℕ) → 0 < rest → rest < 2 ^ 64 → r ≡ trailing_ones w64 (rest / 2 ^ trailing_zeros w64 rest) → IsRunning source target items at rest
    → at + trailing_zeros w64 rest + r ≤ length source
run_inside source target items at rest r some fits is was = run_within source target items at rest _ r (run_of rest r some fits is) was

pub run_some : (rest r : ℕ) → 0 < rest → rest < 2 ^ 64 → r ≡ trailing_ones w64 (rest / 2 ^ trailing_zeros w64 rest) → 0 < r
run_some rest r some fits is = (run_of rest r some fits is).some

pub ruleset running = (run_inside, run_some, running_last)
