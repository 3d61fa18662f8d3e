-- A word represents the number whose printed form it is.
use Rattle.std.proofs.Common.{rules, ◌≡◌, ◌≢◌, ℕ, zero, suc, ◌^◌, ◌≤◌, ◌<◌, ℤ, pos, neg_ℤ, cond, List, [], ◌∷◌, length, get_or, drop, Some, None, Result, Ok, Err, arith, refl, ap, sym, ◌∙◌, lit<, bytes_eq, nat_lt, Decides, ◌&&◌}
use Rattle.std.proofs.lemmas.{Slice.Eq.bytes_eq-Decides, Bool.cases_eq, Bool.cond-true}
use Rattle.std.proofs.lemmas.Fmt.{decimal_is_IsNumeral, first_decimal, decimal_digit, decimal-digits_value, parse-decimal, parse-signed_decimal}
use Rattle.std.proofs.lemmas.Str.Parse.{parse_plain, parse_signed_plain, parse_signed_minus, numerals_by_value, tells_digits, digit_at, IsNumeralModel}
use Rattle.std.specs.{Int.w64, Int.Signed.mag, Result.result_ok, Fmt.decimal, Fmt.signed_decimal}
use Rattle.std.specs.Str.Parse.{digits_value, signed_digits_value, ParsesSigned, ParsesUnsigned, AllDigits}
use Rattle.sel_lines.{proofs.Common.Decides-and, proofs.Common.Decides-ltb, proofs.Common.HasOneSpelling, specs.Numbers.integer_of, specs.Numbers.unsigned_of}
use mathlib.Core.Logic.{⊎_elim}

test_of : (printed word : List ℕ) (m n : ℕ) → Decides (bytes_eq printed word && nat_lt m n) ((printed ≡ word) × (m < n))
test_of printed word m n = Decides-and _ _ (bytes_eq-Decides printed word) (Decides-ltb m n)

read_some : {A : Type 0} (printed word : List ℕ) (m n : ℕ) (x : A) → printed ≡ word → m < n →
    cond (bytes_eq printed word && nat_lt m n) (Some x) None ≡ Some x
read_some printed word m n x prints small = cond-true _ _ _ ((test_of printed word m n).1 (prints, small))

read_none : {A : Type 0} (printed word : List ℕ) (m n : ℕ) (x : A) → (printed ≡ word → m < n → ⊥) →
    cond (bytes_eq printed word && nat_lt m n) (Some x) None ≡ None
read_none printed word m n x never = search (rules, test_of)

integer_some : (word : List ℕ) (z : ℤ) → z ≡ signed_digits_value 10 word → signed_decimal z ≡ word → mag z < 2 ^ 63 →
    integer_of word ≡ Some z
unfolding integer_of
integer_some word z is prints small = rw (← is) (read_some (signed_decimal z) word (mag z) (2 ^ 63) z prints small)

integer_none : (word : List ℕ) → ((z : ℤ) → signed_decimal z ≡ word → mag z < 2 ^ 63 → ⊥) → integer_of word ≡ None
unfolding integer_of
integer_none word never = let v = signed_digits_value 10 word in read_none (signed_decimal v) word (mag v) (2 ^ 63) v (never v)

unsigned_some : (bits : ℕ) (word : List ℕ) (n : ℕ) → n ≡ digits_value 10 word → decimal n ≡ word → n < 2 ^ bits →
    unsigned_of bits word ≡ Some n
unfolding unsigned_of
unsigned_some bits word n is prints small = rw (← is) (read_some (decimal n) word n (2 ^ bits) n prints small)

unsigned_none : (bits : ℕ) (word : List ℕ) → ((n : ℕ) → decimal n ≡ word → n < 2 ^ bits → ⊥) → unsigned_of bits word ≡ None
unfolding unsigned_of
unsigned_none bits word never = let v = digits_value 10 word in read_none (decimal v) word v (2 ^ bits) v (never v)

own : IsNumeralModel (AllDigits 10) (digits_value 10)
own = numerals_by_value _ tells_digits

-- Printed numbers have no plus sign, no `-0` and no leading zero.
decimal_one_spelling : (n : ℕ) → n < 2 ^ 64 → HasOneSpelling (decimal n)
decimal_one_spelling n small = search (rules, decimal_digit, first_decimal, decimal_is_IsNumeral, digit_at)

pub integer_one_spelling : (z : ℤ) → mag z < 2 ^ 63 → HasOneSpelling (signed_decimal z)
integer_one_spelling z small = search (rules, decimal_one_spelling, first_decimal)

-- ---- the result of `parse` for a word without these

pub unsigned_parsed : {E : Type 0} (bits : ℕ) (word : List ℕ) (r : Result ℕ E) → ParsesUnsigned bits 10 word r → HasOneSpelling word → 2 ^ bits ≤ 2 ^ 64 → result_ok r ≡ unsigned_of bits word
unsigned_parsed {E = E} bits word (Ok n) h one few =
    let p = parse_plain own {E = E} bits word (Ok n) h one.0 in
    let under : digits_value 10 word < 2 ^ bits = p.0.2 in
    let is : n ≡ digits_value 10 word = p.1 in
    sym (unsigned_some bits word n is (ap decimal is ∙ decimal-digits_value own word p.0.0 p.0.1 one.2 (omega arith)) (omega arith))
unsigned_parsed bits word (Err e) h one few = sym (unsigned_none bits word (λ n prints small.
    let found = parse-decimal bits n word (Err e) small (omega arith) (sym prints) h in cc))

pub unsigned_refused : (bits : ℕ) (word : List ℕ) → (HasOneSpelling word → ⊥) → 2 ^ bits ≤ 2 ^ 64 → None ≡ unsigned_of bits word
unsigned_refused bits word never few = sym (unsigned_none bits word (λ n prints small. never (rw (← prints) (decimal_one_spelling n (omega arith)))))

minus_prints : (word : List ℕ) (n : ℕ) → get_or word 0 0 ≡ 45 → AllDigits 10 (drop 1 word) → 0 < length (drop 1 word) → get_or word 1 0 ≢ 48
    → n ≡ digits_value 10 (drop 1 word) → n ≤ 2 ^ 63 → signed_decimal (neg_ℤ (pos n)) ≡ word
minus_prints [] n minus all some first is small = absurd (omega arith)
minus_prints (c ∷ cs) zero minus all some first is small =
    let e : decimal 0 ≡ cs = ap decimal is ∙ decimal-digits_value own cs all some (λ f. absurd (first f)) (omega arith) in
    let f : get_or (decimal 0) 0 0 ≡ 48 = rw (decimal_digit 0 (lit< tt)) refl in
    absurd (first (ap (λ ds. get_or ds 0 0) (sym e) ∙ f))
minus_prints (c ∷ cs) (suc n) minus all some first is small =
    let e : decimal (suc n) ≡ cs = ap decimal is ∙ decimal-digits_value own cs all some (λ f. absurd (first f)) (omega arith) in
    rw (e, minus) refl

pub integer_parsed : {E : Type 0} (word : List ℕ) (r : Result ℤ E) → ParsesSigned w64 10 word r → HasOneSpelling word → result_ok r ≡ integer_of word
integer_parsed {E = E} word (Ok z) h one =
    let small : mag z < 2 ^ 63 = rw h.1 h.0.1.sfits in
    let prints : signed_decimal z ≡ word = ⊎_elim
    (λ minus. let p = parse_signed_minus own {E = E} w64 word (Ok z) h minus in
    ap signed_decimal p.1 ∙ minus_prints word _ minus p.0.0 p.0.1 (one.1 minus) refl p.0.2)
    (λ plain. let p = parse_signed_plain own {E = E} w64 word (Ok z) h one.0 plain in
    let under : digits_value 10 word < 2 ^ 63 = p.0.2 in
    ap signed_decimal p.1 ∙ decimal-digits_value own word p.0.0 p.0.1 one.2 (omega arith))
    (cases_eq (get_or word 0 0) 45) in
    sym (integer_some word z h.1 prints small)
integer_parsed word (Err e) h one = sym (integer_none word (λ z prints small.
    let found = parse-signed_decimal w64 z word (Err e) (record { sfits = small }) small (sym prints) h in cc))

pub integer_refused : (word : List ℕ) → (HasOneSpelling word → ⊥) → None ≡ integer_of word
integer_refused word never = sym (integer_none word (λ z prints small. never (rw (← prints) (integer_one_spelling z small))))
