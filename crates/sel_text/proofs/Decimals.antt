-- Digits as they are parsed.
use Rattle.std.proofs.Common.{◌≡◌, ℕ, ◌+◌, ◌-◌, ◌*◌, ◌≤◌, ◌<◌, ◌^◌, List, length, take, get_or, ap, ◌∙◌, arith, length-take, get_or-take}
use Rattle.sel_text.proofs.Common.{digit_value, decimal, IsInRange, AllDigits, digits_value, nat_tests, decimal-digits_value}
use Rattle.std.proofs.lemmas.Int.Digits.{digits_value_more}
use Rattle.std.proofs.lemmas.Str.Parse.{numerals_by_value, tells_by_index, tells_digits, digit_at, digits_value-take-le}

-- Digits, position by position.
pub all_digits : (bytes : List ℕ) (count : ℕ) → ((k : ℕ) → k < count → IsInRange 48 57 (get_or bytes k 0)) → AllDigits 10 (take count bytes)
all_digits bytes count each =
    (numerals_by_value _ tells_by_index).to (take count bytes)
    (λ k inside. let small : k < count = omega (arith, length-take count bytes) in rw (get_or-take count bytes k 0 small) (each k small))

value_of_digit : (c : ℕ) → 48 ≤ c → c ≤ 57 → digit_value c ≡ c - 48
value_of_digit c low high = grind (arith, nat_tests)

-- The number with one more digit.
pub digits_more : (ds : List ℕ) (i : ℕ) → AllDigits 10 ds → i < length ds →
    (48 ≤ get_or ds i 0) × (digits_value 10 (take (i + 1) ds) ≡ digits_value 10 (take i ds) * 10 + (get_or ds i 0 - 48)) × (digits_value 10 (take (i + 1) ds) ≤ digits_value 10 ds)
digits_more ds i all inside =
    let range = digit_at ds i all inside in (
      omega arith,
      digits_value_more 10 ds i inside ∙ ap (λ d. digits_value 10 (take i ds) * 10 + d) (value_of_digit (get_or ds i 0) (omega arith) (omega arith)),
      digits_value-take-le 10 ds (i + 1) (omega arith),
    )

-- Digits without a leading zero are the decimal text of their number.
pub printed_back : (ds : List ℕ) → AllDigits 10 ds → 0 < length ds → (get_or ds 0 0 ≡ 48 → length ds ≡ 1) → digits_value 10 ds < 2 ^ 64 → decimal (digits_value 10 ds) ≡ ds
printed_back ds all some zero small = decimal-digits_value (numerals_by_value _ tells_digits) ds all some zero small
