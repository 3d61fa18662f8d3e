use Rattle.std.proofs.Common.{arith, get_or, length, List, None, Option, refl, Some, sym, true, ℕ, ◌*◌, ◌+◌, ◌<◌, ◌≡◌, ◌≤◌, ◌∷◌, []}
use Rattle.sel_text.proofs.Common.{digit_value, is_digit, nat_tests, unit_at}
use Rattle.sel_text.proofs.EscapeNotation.{IsUnit, read_unit}
use Rattle.sel_text.proofs.spelling.unit.Goals as goal

short : (text : List ℕ) → length text < 4 → None ≡ unit_at text
short [] small = refl
short (a ∷ []) small = refl
short (a ∷ b ∷ []) small = refl
short (a ∷ b ∷ c ∷ []) small = refl
short (a ∷ b ∷ c ∷ d ∷ rest) small = absurd (omega (arith, small))

missing : (text : List ℕ) → 4 ≤ length text → ((unit : ℕ) → IsUnit (get_or text 0 0) (get_or text 1 0) (get_or text 2 0) (get_or text 3 0) unit → ⊥) → None ≡ unit_at text
missing (a ∷ b ∷ c ∷ d ∷ rest) long none = go (unit_at (a ∷ b ∷ c ∷ d ∷ rest)) refl
  where
    go : (o : Option ℕ) → unit_at (a ∷ b ∷ c ∷ d ∷ rest) ≡ o → None ≡ unit_at (a ∷ b ∷ c ∷ d ∷ rest)
    go None is = sym is
    go (Some unit) is = absurd (none unit (read_unit a b c d unit rest is))
missing text long none = absurd (omega (arith, long))

a_digit : (x : ℕ) → digit_value x < 16 → is_digit x 16 ≡ true
a_digit x small = grind (arith, nat_tests, small)

present : (text : List ℕ) → 4 ≤ length text → (p q r s : ℕ) → (digit_value (get_or text 0 0) < 16) × (p ≡ digit_value (get_or text 0 0)) → (digit_value (get_or text 1 0) < 16) × (q ≡ digit_value (get_or text 1 0)) →
    (digit_value (get_or text 2 0) < 16) × (r ≡ digit_value (get_or text 2 0)) → (digit_value (get_or text 3 0) < 16) × (s ≡ digit_value (get_or text 3 0)) → Some (p * 4096 + q * 256 + r * 16 + s) ≡ unit_at text
present (a ∷ b ∷ c ∷ d ∷ rest) long p q r s is_a is_b is_c is_d =
    rw (is_a.1, is_b.1, is_c.1, is_d.1, a_digit a is_a.0, a_digit b is_b.0, a_digit c is_c.0, a_digit d is_d.0) refl
present text long p q r s is_a is_b is_c is_d = absurd (omega (arith, long))

pub returns-then-bytes-lt4-clause-value : goal.returns-then-bytes-lt4-clause-value
returns-then-bytes-lt4-clause-value c = short c.args.bytes.now c.if-bytes-lt4.true

pub returns-in_default-4-clause-value : goal.returns-in_default-4-clause-value
returns-in_default-4-clause-value c = missing c.args.bytes.now c.if-bytes-lt4.false (λ unit is. (rw c.in_default.is-0 at c.digit.ensures.value) is.digit_a)

pub returns-in_default-3-clause-value : goal.returns-in_default-3-clause-value
returns-in_default-3-clause-value c = missing c.args.bytes.now c.if-bytes-lt4.false (λ unit is. (rw c.in_default.is-1 at c.digit-2.ensures.value) is.digit_b)

pub returns-in_default-2-clause-value : goal.returns-in_default-2-clause-value
returns-in_default-2-clause-value c = missing c.args.bytes.now c.if-bytes-lt4.false (λ unit is. (rw c.in_default.is-2 at c.digit-3.ensures.value) is.digit_c)

pub returns-in_default-clause-value : goal.returns-in_default-clause-value
returns-in_default-clause-value c = missing c.args.bytes.now c.if-bytes-lt4.false (λ unit is. (rw c.in_default.is-3 at c.digit-4.ensures.value) is.digit_d)

pub returns-clause-value : goal.returns-clause-value
returns-clause-value c =
    let read = c.in-Some-Some-Some-Some in
    present c.args.bytes.now c.if-bytes-lt4.false read.a read.b read.c read.d read.ensures.value read.ensures'.value read.ensures''.value read.ensures'''.value
