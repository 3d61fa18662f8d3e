-- Printed digits, and printed bytes in quotes, parse to the original.
use Rattle.std.proofs.Common.{◌≡◌, ◌≢◌, ℕ, ℤ, pos, negsuc, ◌+◌, ◌-◌, ◌*◌, ◌^◌, ◌/◌, ◌%◌, ◌<◌, List, [], ◌∷◌, ◌++◌, length, refl, ap, sym, ◌∙◌, arith, append_assoc, nat_lt, ◌==◌, if◌then◌else◌}
use Rattle.sel_text.proofs.Common.{common_steps, digit_char, decimal, signed_decimal, mag, flat_map, AllDigits, digits_value, nat_tests, decimal_is_IsNumeral_wide, NoDigit, escaped, hex_byte}
use Rattle.sel_text.proofs.Ends.{digits_apart, few_digits}
use Rattle.sel_text.proofs.Escapes.{each_escape}

-- ---- numbers

decimal_apart : (m n : ℕ) (r t : List ℕ) → m < 2 ^ 129 → n < 2 ^ 129 → NoDigit r → NoDigit t → decimal m ++ r ≡ decimal n ++ t → (m ≡ n) × (r ≡ t)
decimal_apart m n r t sm sn nr nt e =
    let dm = decimal_is_IsNumeral_wide m (few_digits m sm) in
    let dn = decimal_is_IsNumeral_wide n (few_digits n sn) in
    let parts = digits_apart (decimal m) (decimal n) r t dm.0.1 dn.0.1 nr nt e in
    (sym dm.1 ∙ ap (digits_value 10) parts.0 ∙ dn.1, parts.1)

-- Digits never begin with a minus sign.
pub no_minus : (a r t : List ℕ) → 0 < length a → AllDigits 10 a → a ++ r ≡ 45 ∷ t → ⊥
no_minus [] r t some da e = omega arith
no_minus (x ∷ a) r t some da e = grind (arith, common_steps)

pub signed_apart : (y z : ℤ) (r t : List ℕ) → mag y < 2 ^ 128 → mag z < 2 ^ 128 → NoDigit r → NoDigit t → signed_decimal y ++ r ≡ signed_decimal z ++ t → (y ≡ z) × (r ≡ t)
signed_apart (pos m) (pos n) r t sm sn nr nt e = let parts = decimal_apart m n r t (omega arith) (omega arith) nr nt e in (ap pos parts.0, parts.1)
signed_apart (pos m) (negsuc n) r t sm sn nr nt e = grind (arith, nat_tests, decimal_is_IsNumeral_wide, few_digits, no_minus)
signed_apart (negsuc m) (pos n) r t sm sn nr nt e = grind (arith, nat_tests, decimal_is_IsNumeral_wide, few_digits, no_minus)
signed_apart (negsuc m) (negsuc n) r t sm sn nr nt e = grind (arith, common_steps, decimal_apart)

-- ---- bytes in hexadecimal

pub digit_char_same : (x y : ℕ) → digit_char x ≡ digit_char y → x ≡ y
digit_char_same x y e = grind (arith, nat_tests)

pub no_quote : (x : ℕ) → digit_char x ≢ 34
no_quote x e = grind (arith, nat_tests)

pub hex_apart : (bs cs r t : List ℕ) → flat_map hex_byte bs ++ (34 ∷ r) ≡ flat_map hex_byte cs ++ (34 ∷ t) → (bs ≡ cs) × (r ≡ t)
hex_apart [] [] r t e = (refl, cc)
hex_apart [] (c ∷ cs) r t e = let same : digit_char (c / 16) ≡ 34 = cc in absurd (no_quote (c / 16) same)
hex_apart (b ∷ bs) [] r t e = let same : digit_char (b / 16) ≡ 34 = cc in absurd (no_quote (b / 16) same)
hex_apart (b ∷ bs) (c ∷ cs) r t e =
    let high : digit_char (b / 16) ≡ digit_char (c / 16) = cc in
    let low : digit_char (b % 16) ≡ digit_char (c % 16) = cc in
    let rest : flat_map hex_byte bs ++ (34 ∷ r) ≡ flat_map hex_byte cs ++ (34 ∷ t) = cc in
    let h = digit_char_same (b / 16) (c / 16) high in
    let l = digit_char_same (b % 16) (c % 16) low in
    let same : b ≡ c = omega (arith, h, l) in
    let parts = hex_apart bs cs r t rest in
    (ap (λ x. x ∷ bs) same ∙ ap (λ x. c ∷ x) parts.0, parts.1)

-- ---- quoted strings

-- The value of a hexadecimal digit.
abbrev pub hex_value : ℕ → ℕ
hex_value c = if nat_lt c 58 then c - 48 else c - 87

-- The four digits after `\u` as a byte.
abbrev pub read_hex : List ℕ → ℕ × List ℕ
read_hex (a ∷ b ∷ c ∷ d ∷ rest) = (16 * hex_value c + hex_value d, rest)
read_hex text = (0, text)

-- The byte that an escape after a backslash represents.
abbrev pub read_escape : ℕ → List ℕ → ℕ × List ℕ
read_escape c rest =
    if c == 110 then (10, rest) else
    if c == 114 then (13, rest) else
    if c == 116 then (9, rest) else
    if c == 98 then (8, rest) else
    if c == 102 then (12, rest) else
    if c == 117 then read_hex rest else (c, rest)

-- The first byte between quotes, and the rest.
abbrev pub read_one : List ℕ → ℕ × List ℕ
read_one [] = (0, [])
read_one (c ∷ []) = (c, [])
read_one (c ∷ d ∷ rest) = if c == 92 then read_escape d rest else (c, d ∷ rest)

-- A byte and the rest.
abbrev pub one_then : ℕ → List ℕ → ℕ × List ℕ
one_then a r = (a, r)

plain_read : (a : ℕ) (r : List ℕ) → a ≢ 92 → read_one (a ∷ r) ≡ one_then a r
plain_read a r not = grind (arith, nat_tests)

low_value : (a : ℕ) → a < 32 → 16 * hex_value (digit_char (a / 16)) + hex_value (digit_char (a % 16)) ≡ a
low_value a low = grind (arith, nat_tests)

-- An escape parses to the byte.
pub read_escaped : (a : ℕ) (r : List ℕ) → read_one (escaped a ++ r) ≡ one_then a r
read_escaped a r =
    each_escape (λ b word. read_one (word ++ r) ≡ one_then b r) refl refl refl refl refl refl refl
    (λ b low n8 n9 n10 n12 n13. ap (λ x. one_then x r) (low_value b low)) (λ b high quote not. plain_read b r not) a

-- No escape begins with a quote.
pub unquoted : (a : ℕ) (r t : List ℕ) → escaped a ++ r ≡ 34 ∷ t → ⊥
unquoted a r t e =
    let read : one_then a r ≡ read_one (34 ∷ t) = sym (read_escaped a r) ∙ ap read_one e in
    let same : a ≡ 34 = ap (λ p. p.0) (read ∙ plain_read 34 t (λ e. omega arith)) in
    let head : escaped 34 ++ r ≡ 34 ∷ t = ap (λ x. escaped x ++ r) (sym same) ∙ e in
    cc

pub escaped_apart : (bs cs r t : List ℕ) → flat_map escaped bs ++ (34 ∷ r) ≡ flat_map escaped cs ++ (34 ∷ t) → (bs ≡ cs) × (r ≡ t)
escaped_apart [] [] r t e = (refl, cc)
escaped_apart [] (c ∷ cs) r t e =
    absurd (unquoted c (flat_map escaped cs ++ (34 ∷ t)) r (sym (append_assoc (escaped c) (flat_map escaped cs) (34 ∷ t)) ∙ sym e))
escaped_apart (b ∷ bs) [] r t e =
    absurd (unquoted b (flat_map escaped bs ++ (34 ∷ r)) t (sym (append_assoc (escaped b) (flat_map escaped bs) (34 ∷ r)) ∙ e))
escaped_apart (b ∷ bs) (c ∷ cs) r t e =
    let apart = sym (append_assoc (escaped b) (flat_map escaped bs) (34 ∷ r)) ∙ e ∙ append_assoc (escaped c) (flat_map escaped cs) (34 ∷ t) in
    let read : one_then b (flat_map escaped bs ++ (34 ∷ r)) ≡ one_then c (flat_map escaped cs ++ (34 ∷ t)) = sym (read_escaped b _) ∙ ap read_one apart ∙ read_escaped c _ in
    let same : b ≡ c = ap (λ p. p.0) read in
    let parts = escaped_apart bs cs r t (ap (λ p. p.1) read) in
    (ap (λ x. x ∷ bs) same ∙ ap (λ x. c ∷ x) parts.0, parts.1)
