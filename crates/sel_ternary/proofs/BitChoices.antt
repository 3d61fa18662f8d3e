-- If-then-else of bits, as bitmap operations.
use Rattle.sel_ternary.proofs.Common.{◌≡◌, refl, ap, arith, List, [], ◌∷◌, length, map, Bool, true, false, not, ◌&&◌, zip_with, broadcast_true, broadcast_false}
use Rattle.sel_ternary.proofs.Common.{broadcast_both, if◌then◌else◌}
use Rattle.std.proofs.{Common.◌||◌, Math.Bool.or-true, Math.Bool.or-false, Math.Bool.and-true, Math.Bool.and-false}
use Rattle.sel_ternary.proofs.Chosen.{two_equal}

-- A bitmap operation is an if-then-else with a broadcast value if it is one at each bit.
by_bit_true : (p : Bool → Bool → Bool) (x : Bool) → ((f m : Bool) → p f m ≡ (if m then x else f)) → (ms fs : List Bool) → length fs ≡ length ms → zip_with p fs ms ≡ broadcast_true ms x fs
by_bit_true p x same [] [] h = refl
by_bit_true p x same (m ∷ ms) (f ∷ fs) h = λ i. same f m i ∷ by_bit_true p x same ms fs (omega arith) i
by_bit_true p x same ms fs h = absurd (omega arith)

by_bit_false : (p : Bool → Bool → Bool) (x : Bool) → ((t m : Bool) → p t m ≡ (if m then t else x)) → (ms ts : List Bool) → length ts ≡ length ms → zip_with p ts ms ≡ broadcast_false ms ts x
by_bit_false p x same [] [] h = refl
by_bit_false p x same (m ∷ ms) (t ∷ ts) h = λ i. same t m i ∷ by_bit_false p x same ms ts (omega arith) i
by_bit_false p x same ms ts h = absurd (omega arith)

pub one_true : (ms fs : List Bool) → length fs ≡ length ms → zip_with (λ x y. x || y) fs ms ≡ broadcast_true ms true fs
one_true = by_bit_true (λ x y. x || y) true (λ f m. elim m as (λ m. (f || m) ≡ (if m then true else f)) [ true ↦ or-true f | false ↦ or-false f ])

pub one_false : (ms fs : List Bool) → length fs ≡ length ms → zip_with (λ x y. x && not y) fs ms ≡ broadcast_true ms false fs
one_false = by_bit_true (λ x y. x && not y) false (λ f m. elim m as (λ m. (f && not m) ≡ (if m then false else f)) [ true ↦ and-false f | false ↦ and-true f ])

pub or_true : (ms ts : List Bool) → length ts ≡ length ms → zip_with (λ x y. x || not y) ts ms ≡ broadcast_false ms ts true
or_true = by_bit_false (λ x y. x || not y) true (λ t m. elim m as (λ m. (t || not m) ≡ (if m then t else true)) [ true ↦ or-false t | false ↦ or-true t ])

pub or_false : (ms ts : List Bool) → length ts ≡ length ms → zip_with (λ x y. x && y) ts ms ≡ broadcast_false ms ts false
or_false = by_bit_false (λ x y. x && y) false (λ t m. elim m as (λ m. (t && m) ≡ (if m then t else false)) [ true ↦ and-true t | false ↦ and-false t ])

pub two_turned : (ms : List Bool) → map not ms ≡ broadcast_both ms false true
two_turned [] = refl
two_turned (true ∷ ms) = ap (λ l. false ∷ l) (two_turned ms)
two_turned (false ∷ ms) = ap (λ l. true ∷ l) (two_turned ms)

pub two_kept : (ms : List Bool) → broadcast_both ms true false ≡ ms
two_kept [] = refl
two_kept (true ∷ ms) = ap (λ l. true ∷ l) (two_kept ms)
two_kept (false ∷ ms) = ap (λ l. false ∷ l) (two_kept ms)

pub ruleset bit_choices = (one_true, one_false, or_true, or_false, two_equal, two_turned, two_kept)
