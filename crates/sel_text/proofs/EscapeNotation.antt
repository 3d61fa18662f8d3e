-- Escapes of strings in the notation of rows.
use Rattle.std.proofs.Common.{◌≡◌, inl, inr, ◌≤◌, ◌<◌, ℕ, ◌+◌, ◌-◌, ◌*◌, Bool, true, false, List, [], ◌∷◌, drop, refl, ap, sym, ◌∙◌, arith, Some, None, subst, Option, unwrap_or, option_map, option_and_then, ◌&&◌, ◌==◌, if◌then◌else◌}
use Rattle.std.proofs.lemmas.Bool.{cases_eq, ne_eqb}
use Rattle.std.proofs.lemmas.Option.{option_and_then_some}
use Rattle.sel_text.proofs.Common.{common_steps, digit_value, is_digit, nat_tests, goes_on, escape_at, is_high, is_low, next_unit, paired, short_escape, unit_at, unit_escape, is_hexadecimal, Bracket, Quoted, Text, Escape, UnitFirst, UnitSecond, LastThree, LastTwo, HighTwo, HighOne, LowBackslash, LowLetter, LowFirst, LowSecond}
use lib.Utf8.{scalar}
use Rattle.sel_text.proofs.StringNotation.{hex_step, inside, leads_byte, leads_none, Leads}

-- An escape is that of a character, and leads to the next byte of the string.
abbrev pub Escapes : List ℕ → ℕ → ℕ → Type 0
Escapes text c n = (scalar c ≡ true) × ((brackets : List Bracket) → goes_on (Quoted Escape) brackets text ≡ goes_on (Quoted Text) brackets (drop n text))

-- ---- escapes of one letter

from_some : (x k c n : ℕ) → ◌≡◌ {A = Option (ℕ × ℕ)} (Some (x, k)) (Some (c, n)) → (x ≡ c) × (k ≡ n)
from_some x k c n is = (ap (λ (o : Option (ℕ × ℕ)). (unwrap_or o (0, 0)).0) is, ap (λ (o : Option (ℕ × ℕ)). (unwrap_or o (0, 0)).1) is)

from_short : (o : Option ℕ) (c n : ℕ) → option_map {U = ℕ × ℕ} (λ character. (character, 1)) o ≡ Some (c, n) → (o ≡ Some c) × (n ≡ 1)
from_short o c n is = grind (arith, nat_tests, is)

short_read : (letter : ℕ) (rest : List ℕ) (c n : ℕ) → option_map {U = ℕ × ℕ} (λ character. (character, 1)) (short_escape letter) ≡ Some (c, n) → Escapes (letter ∷ rest) c n
short_read letter rest c n is =
    let parts = from_short (short_escape letter) c n is in
    let told = parts.0 in (
      grind (arith, nat_tests, told),
      λ brackets. inside Escape Text brackets letter rest (grind (arith, nat_tests, told)) ∙ ap (λ k. goes_on (Quoted Text) brackets (drop k (letter ∷ rest))) (sym parts.1),
    )

-- ---- `\u` escapes

-- Four hexadecimal digits and their number.
pub record IsUnit (a b c d unit : ℕ) : Type 0 where
  pub digit_a : digit_value a < 16
  pub digit_b : digit_value b < 16
  pub digit_c : digit_value c < 16
  pub digit_d : digit_value d < 16
  pub unit_is : unit ≡ digit_value a * 4096 + digit_value b * 256 + digit_value c * 16 + digit_value d

if_some : (t : Bool) (x y : ℕ) → (if t then Some x else None) ≡ Some y → (t ≡ true) × (x ≡ y)
if_some t x y is = grind (arith, nat_tests, is)

pub read_unit : (a b c d unit : ℕ) (rest : List ℕ) → unit_at (a ∷ b ∷ c ∷ d ∷ rest) ≡ Some unit → IsUnit a b c d unit
read_unit a b c d unit rest is =
    let parts = if_some (is_digit a 16 && is_digit b 16 && is_digit c 16 && is_digit d 16) _ unit is in
    let all = parts.0 in
    record { digit_a = grind (arith, nat_tests, all); digit_b = grind (arith, nat_tests, all); digit_c = grind (arith, nat_tests, all); digit_d = grind (arith, nat_tests, all); unit_is = sym parts.1 }

hexadecimal : (x : ℕ) → digit_value x < 16 → is_hexadecimal x ≡ true
hexadecimal x small = grind (arith, nat_tests, small)

last_two : (c d : ℕ) → digit_value c < 16 → digit_value d < 16 → Leads LastTwo Text (c ∷ d ∷ [])
last_two c d digit_c digit_d = grind (arith, common_steps, leads_byte, hex_step, hexadecimal, leads_none)

-- A unit that is no surrogate.
plain_unit : (a b c d unit : ℕ) (rest : List ℕ) → is_high unit ≡ false → is_low unit ≡ false → IsUnit a b c d unit → Escapes (117 ∷ a ∷ b ∷ c ∷ d ∷ rest) unit 5
plain_unit a b c d unit rest high low at = (
  (let small : unit < 65536 = omega (arith, at.unit_is, at.digit_a, at.digit_b, at.digit_c, at.digit_d) in grind (arith, nat_tests, high, low, small)),
  λ brackets. inside Escape UnitFirst brackets 117 (a ∷ b ∷ c ∷ d ∷ rest) refl ∙ digits.led brackets rest,
)
  where
    second : digit_value a ≡ 13 → digit_value b < 8
    second same = grind (arith, nat_tests, high, low, same, at.unit_is, at.digit_b, at.digit_c, at.digit_d)

    digits : Leads UnitFirst Text (a ∷ b ∷ c ∷ d ∷ [])
    digits =
        elim (cases_eq (digit_value a) 13) [
          | inl same ↦ let small = second same in
              leads_byte UnitFirst UnitSecond Text a _ (grind (arith, nat_tests, same)) (leads_byte UnitSecond LastTwo Text b _ (grind (arith, nat_tests, small)) (last_two c d at.digit_c at.digit_d))
          | inr not ↦ leads_byte UnitFirst LastThree Text a _ (grind (arith, nat_tests, at.digit_a, not)) (leads_byte LastThree LastTwo Text b _ (hex_step LastThree LastTwo b refl (hexadecimal b at.digit_b)) (last_two c d at.digit_c at.digit_d))
        ]

-- The first escape of a surrogate pair.
high_leads : (a b c d unit : ℕ) → is_high unit ≡ true → IsUnit a b c d unit → Leads UnitFirst LowBackslash (a ∷ b ∷ c ∷ d ∷ [])
high_leads a b c d unit is at =
    let first : digit_value a ≡ 13 = grind (arith, nat_tests, is) in
    let from : 8 ≤ digit_value b = grind (arith, nat_tests, is) in
    let until : digit_value b < 12 = grind (arith, nat_tests, is) in
    leads_byte UnitFirst UnitSecond LowBackslash a _ (grind (arith, nat_tests, first)) (leads_byte UnitSecond HighTwo LowBackslash b _ (grind (arith, nat_tests, from, until))
    (leads_byte HighTwo HighOne LowBackslash c _ (hex_step HighTwo HighOne c refl (hexadecimal c at.digit_c)) (leads_byte HighOne LowBackslash LowBackslash d [] (hex_step HighOne LowBackslash d refl (hexadecimal d at.digit_d)) (leads_none LowBackslash))))

-- The second escape of a surrogate pair, after its `\u`.
low_leads : (a b c d unit : ℕ) → is_low unit ≡ true → IsUnit a b c d unit → Leads LowFirst Text (a ∷ b ∷ c ∷ d ∷ [])
low_leads a b c d unit is at =
    let first : digit_value a ≡ 13 = grind (arith, nat_tests, is) in
    let from : 12 ≤ digit_value b = grind (arith, nat_tests, is) in
    leads_byte LowFirst LowSecond Text a _ (grind (arith, nat_tests, first)) (leads_byte LowSecond LastTwo Text b _ (grind (arith, nat_tests, from, at.digit_b)) (last_two c d at.digit_c at.digit_d))

-- A second escape.
record IsNext (text : List ℕ) (unit : ℕ) : Type 0 where
  a : ℕ
  b : ℕ
  c : ℕ
  d : ℕ
  rest : List ℕ
  text_is : text ≡ 92 ∷ 117 ∷ a ∷ b ∷ c ∷ d ∷ rest
  digits : IsUnit a b c d unit

read_next : (text : List ℕ) (unit : ℕ) → next_unit text ≡ Some unit → IsNext text unit
read_next (x ∷ y ∷ a ∷ b ∷ c ∷ d ∷ rest) unit is = go (x == 92 && y == 117) refl is
  where
    go : (t : Bool) → (x == 92 && y == 117) ≡ t → (if t then unit_at (a ∷ b ∷ c ∷ d ∷ rest) else None) ≡ Some unit → IsNext (x ∷ y ∷ a ∷ b ∷ c ∷ d ∷ rest) unit
    go true both is =
        let first : x ≡ 92 = grind (arith, nat_tests, both) in
        let second : y ≡ 117 = grind (arith, nat_tests, both) in
        record { a = a; b = b; c = c; d = d; rest = rest; text_is = rw (first, second) refl; digits = read_unit a b c d unit rest is }
    go false both is = absurd cc
read_next text unit is = absurd (grind (arith, is))

pair_scalar : (high low : ℕ) → is_high high ≡ true → is_low low ≡ true → scalar (65536 + (high - 55296) * 1024 + (low - 56320)) ≡ true
pair_scalar high low first second = grind (arith, nat_tests)

from_pair : (t : Bool) (x c n : ℕ) → if◌then◌else◌ {A = Option (ℕ × ℕ)} t (Some (x, 11)) None ≡ Some (c, n) → (t ≡ true) × (x ≡ c) × (n ≡ 11)
from_pair t x c n is = grind (arith, nat_tests, is)

pair_read : (a b c d unit : ℕ) (rest : List ℕ) (l n : ℕ) → is_high unit ≡ true → IsUnit a b c d unit → option_and_then (paired unit) (next_unit rest) ≡ Some (l, n) → Escapes (117 ∷ a ∷ b ∷ c ∷ d ∷ rest) l n
pair_read a b c d unit rest l n high at is = option_and_then_some (paired unit) (next_unit rest) (l, n) is go
  where
    go : (low : ℕ) → next_unit rest ≡ Some low → paired unit low ≡ Some (l, n) → Escapes (117 ∷ a ∷ b ∷ c ∷ d ∷ rest) l n
    go low told is =
        let parts = from_pair (is_low low) (65536 + (unit - 55296) * 1024 + (low - 56320)) l n is in
        let other = read_next rest low told in
        let behind = other.a ∷ other.b ∷ other.c ∷ other.d ∷ other.rest in (
          subst (λ x. scalar x ≡ true) parts.1 (pair_scalar unit low high parts.0),
          λ brackets. rw (other.text_is, parts.2)
              (inside Escape UnitFirst brackets 117 (a ∷ b ∷ c ∷ d ∷ 92 ∷ 117 ∷ behind) refl ∙ (high_leads a b c d unit high at).led brackets (92 ∷ 117 ∷ behind)
              ∙ inside LowBackslash LowLetter brackets 92 (117 ∷ behind) refl ∙ inside LowLetter LowFirst brackets 117 behind refl ∙ (low_leads other.a other.b other.c other.d low parts.0 other.digits).led brackets other.rest),
        )

unit_read : (text : List ℕ) (l n : ℕ) → option_and_then (unit_escape text) (unit_at text) ≡ Some (l, n) → Escapes (117 ∷ text) l n
unit_read (a ∷ b ∷ c ∷ d ∷ rest) l n is = option_and_then_some (unit_escape (a ∷ b ∷ c ∷ d ∷ rest)) (unit_at (a ∷ b ∷ c ∷ d ∷ rest)) (l, n) is (λ unit told is. choose unit (read_unit a b c d unit rest told) (is_high unit) (is_low unit) refl refl is)
  where
    choose : (unit : ℕ) → IsUnit a b c d unit → (high low : Bool) → is_high unit ≡ high → is_low unit ≡ low →
        (if high then option_and_then (paired unit) (next_unit rest) else if low then None else Some (unit, 5)) ≡ Some (l, n) → Escapes (117 ∷ a ∷ b ∷ c ∷ d ∷ rest) l n
    choose unit at true low first second is = pair_read a b c d unit rest l n first at is
    choose unit at false true first second is = absurd cc
    choose unit at false false first second is =
        let same = from_some unit 5 l n is in
        subst (λ k. Escapes (117 ∷ a ∷ b ∷ c ∷ d ∷ rest) l k) same.1 (subst (λ x. Escapes (117 ∷ a ∷ b ∷ c ∷ d ∷ rest) x 5) same.0 (plain_unit a b c d unit rest first second at))
unit_read text l n is = absurd cc

-- An escape leads to the next byte of the string.
pub escape_read : (text : List ℕ) (c n : ℕ) → escape_at text ≡ Some (c, n) → Escapes text c n
escape_read [] c n is = absurd cc
escape_read (letter ∷ rest) c n is =
    elim (cases_eq letter 117) [
      | inl same ↦ subst (λ x. Escapes (x ∷ rest) c n) (sym same) (unit_read rest c n (rw same at is))
      | inr not ↦ short_read letter rest c n (rw (ne_eqb letter 117 not) at is)
    ]
