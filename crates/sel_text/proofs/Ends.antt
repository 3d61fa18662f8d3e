-- Decimal numbers, and the bytes after them.
use Rattle.std.proofs.Common.{◌≡◌, inl, inr, ◌≢◌, ℕ, zero, suc, ◌/◌, ◌^◌, ◌≤◌, ◌<◌, List, [], ◌∷◌, ◌++◌, length, take, drop, get_or, refl, ap, sym, ◌∙◌, arith, lit<, length-take, get_or-take, take-append-drop}
use Rattle.std.proofs.lemmas.Bool.{cases_lt}
use Rattle.sel_text.proofs.Common.{common_steps, decimal, AllDigits, IsNumeral, digits_value, decimal_is_IsNumeral_wide, decimal_digit, decimal_step_wide, NoDigit}
use Rattle.std.proofs.Math.ListN.{get_or-append}

pub digits_apart : (a b r t : List ℕ) → AllDigits 10 a → AllDigits 10 b → NoDigit r → NoDigit t → a ++ r ≡ b ++ t → (a ≡ b) × (r ≡ t)
digits_apart [] [] r t da db nr nt e = (refl, e)
digits_apart [] (y ∷ b) [] t da db nr nt e = cc
digits_apart [] (y ∷ b) (c ∷ r) t da db nr nt e = grind (arith, common_steps)
digits_apart (x ∷ a) [] r [] da db nr nt e = cc
digits_apart (x ∷ a) [] r (c ∷ t) da db nr nt e = grind (arith, common_steps)
digits_apart (x ∷ a) (y ∷ b) r t da db nr nt e =
    let same : x ≡ y = cc in
    let rest : a ++ r ≡ b ++ t = cc in
    let parts = digits_apart a b r t da.1 db.1 nr nt rest in
    (ap (λ c. c ∷ a) same ∙ ap (λ l. y ∷ l) parts.0, parts.1)

-- 129 bits have fewer than 64 digits.
pub few_digits : (n : ℕ) → n < 2 ^ 129 → n < 10 ^ 64
few_digits n small = let big : 2 ^ 129 < 10 ^ 64 = lit< tt in omega (arith, big)

-- A decimal number consists of digits, whose value is the number.
pub numeral_is : (n : ℕ) → n < 2 ^ 128 → IsNumeral 10 (decimal n) × (digits_value 10 (decimal n) ≡ n)
numeral_is n small = decimal_is_IsNumeral_wide n (few_digits n (omega (arith, small)))

-- A decimal number begins with a zero only if it is zero.
pub first_digit : (most n : ℕ) → n ≤ most → 0 < n → n < 10 ^ 64 → 48 < get_or (decimal n) 0 0
first_digit zero n few some small = absurd (omega arith)
first_digit (suc most) n few some small =
    elim (cases_lt n 10) [
      | inl low ↦ let one = ap (λ l. get_or l 0 0) (decimal_digit n low) in omega (arith, one, some)
      | inr high ↦ let less : n / 10 < 10 ^ 64 = omega (arith, small) in
          let before = first_digit most (n / 10) (omega (arith, few, high)) (omega (arith, high)) less in
          let long = (decimal_is_IsNumeral_wide (n / 10) less).0.0 in
          let same = ap (λ l. get_or l 0 0) (decimal_step_wide n high small) ∙ get_or-append (decimal (n / 10)) _ 0 0 long in
          omega (arith, before, same)
    ]

-- A decimal number has a digit; it begins with a zero only if that is its only digit.
pub numeral_has : (n : ℕ) → n < 2 ^ 128 → (0 < length (decimal n)) × AllDigits 10 (decimal n) × (get_or (decimal n) 0 0 ≡ 48 → length (decimal n) ≡ 1)
numeral_has zero small = let is = (numeral_is zero small).0 in (is.0, is.1, λ e. ap length (decimal_digit 0 (lit< tt)))
numeral_has (suc n) small =
    let is = (numeral_is (suc n) small).0 in
    let first = first_digit (suc n) (suc n) (omega arith) (omega arith) (few_digits (suc n) (omega (arith, small))) in
    (is.0, is.1, λ e. absurd (omega (arith, first, e)))

-- All digits at the front are the decimal number there.
numeral_told : (bytes digits rest : List ℕ) → bytes ≡ digits ++ rest → AllDigits 10 digits → NoDigit rest → (n : ℕ) (more : List ℕ) → n < 2 ^ 128 → NoDigit more → bytes ≡ decimal n ++ more →
    (digits ≡ decimal n) × (rest ≡ more)
numeral_told bytes digits rest is all end n more small ends begins =
    digits_apart digits (decimal n) rest more all (numeral_has n small).1 end ends (sym is ∙ begins)

-- All digits at the front are the number.
pub digits_told : (n : ℕ) (bytes digits rest more : List ℕ) → n < 2 ^ 128 → bytes ≡ digits ++ rest → AllDigits 10 digits → NoDigit rest → NoDigit more → bytes ≡ decimal n ++ more → (digits_value 10 digits ≡ n) × (rest ≡ more)
digits_told n bytes digits rest more small parts all end ends is =
    let told = numeral_told bytes digits rest parts all end n more small ends is in
    (ap (digits_value 10) told.0 ∙ (numeral_is n small).1, told.1)

-- No decimal number is empty.
pub no_numeral : (bytes : List ℕ) (count : ℕ) → count ≡ 0 → NoDigit (drop count bytes) → (n : ℕ) (more : List ℕ) → n < 2 ^ 128 → NoDigit more → bytes ≢ decimal n ++ more
no_numeral bytes count none end n more small ends begins = grind (arith, common_steps, numeral_told, numeral_has)

-- No decimal number has a leading zero.
pub zero_first : (bytes : List ℕ) (count : ℕ) → count ≤ length bytes → AllDigits 10 (take count bytes) → NoDigit (drop count bytes) → 1 < count → get_or bytes 0 0 ≡ 48 →
    (n : ℕ) (more : List ℕ) → n < 2 ^ 128 → NoDigit more → bytes ≢ decimal n ++ more
zero_first bytes count inside all end long naught n more small ends begins =
    let told = numeral_told bytes (take count bytes) (drop count bytes) (sym (take-append-drop count bytes)) all end n more small ends begins in
    let first : get_or (take count bytes) 0 0 ≡ 48 = get_or-take count bytes 0 0 (omega arith) ∙ naught in
    let one = (numeral_has n small).2 (ap (λ l. get_or l 0 0) (sym told.0) ∙ first) in
    let same = ap length told.0 in
    let many = length-take count bytes in
    omega (arith, long, one, same, many)

-- Equal decimal texts have equal numbers.
pub numbers_told : (m n : ℕ) (bytes rest more : List ℕ) → m < 2 ^ 128 → n < 2 ^ 128 → NoDigit rest → NoDigit more → bytes ≡ decimal m ++ rest → bytes ≡ decimal n ++ more → (m ≡ n) × (rest ≡ more)
numbers_told m n bytes rest more sm sn end ends one other =
    let told = numeral_told bytes (decimal m) rest one (numeral_has m sm).1 end n more sn ends other in
    (sym (numeral_is m sm).1 ∙ ap (digits_value 10) told.0 ∙ (numeral_is n sn).1, told.1)
