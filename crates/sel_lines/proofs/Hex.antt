-- The result of `from_str_radix` for a word of lower-case hexadecimal digits.
use Rattle.std.proofs.Common.{rules, ◌≡◌, ◌≢◌, ℕ, ◌^◌, ◌<◌, true, false, List, [], ◌∷◌, length, get_or, Some, None, Result, arith, sym, ◌∙◌, lit<, ◌&&◌, nat_lt, nat_le}
use Rattle.std.proofs.{Math.Nat.pow-le-pow_right, lemmas.Int.Digits.digits_value-lt, lemmas.Str.Parse.without_leading_plus_none}
use Rattle.std.proofs.lemmas.Bool.{and_parts, cond-false, cond-true, leb-true}
use Rattle.std.specs.{Char.digit_value, Result.result_ok, Str.Parse.digits_value, Str.Parse.ParsesUnsigned, Str.Parse.AllDigits, Str.Parse.IsNumeral}
use Rattle.sel_lines.proofs.Common.{list_all, nat_tests, Decides-ltb}
use Rattle.sel_lines.specs.Pext.{is_hex_digit, is_hex_word, word_of_hex}

hex_digit_value : (b : ℕ) → is_hex_digit b ≡ true → digit_value b < 16
hex_digit_value b digit = grind (arith, nat_tests)

no_plus : (b : ℕ) → is_hex_digit b ≡ true → b ≢ 43
no_plus b digit = grind (arith, nat_tests)

hex_digits : (word : List ℕ) → list_all is_hex_digit word ≡ true → AllDigits 16 word × (get_or word 0 0 ≢ 43)
hex_digits [] all = (tt, λ e. omega arith)
hex_digits (b ∷ word) all =
    let parts = and_parts (is_hex_digit b) (list_all is_hex_digit word) all in
    ((hex_digit_value b parts.0, (hex_digits word parts.1).0), no_plus b parts.0)

-- A word of lower-case hexadecimal digits is a numeral with no plus sign, and its value fits.
hex_word : (word : List ℕ) → is_hex_word word ≡ true → (get_or word 0 0 ≢ 43) × (IsNumeral 16 word × (digits_value 16 word < 2 ^ 64))
hex_word word is =
    let outer = and_parts (nat_lt 0 (length word) && nat_le (length word) 16) (list_all is_hex_digit word) is in
    let sizes = and_parts (nat_lt 0 (length word)) (nat_le (length word) 16) outer.0 in
    let digits = hex_digits word outer.1 in
    let few = pow-le-pow_right {n = 16} (lit< tt) (leb-true (length word) 16 sizes.1) in
    (digits.1, (((Decides-ltb 0 (length word)).0 sizes.0, digits.0), omega (arith, digits_value-lt 16 word digits.0, few)))

-- The result for such a word is the value of its digits.
hex_result : {E : Type 0} (word : List ℕ) (r : Result ℕ E) → is_hex_word word ≡ true → ParsesUnsigned 64 16 word r →
    result_ok r ≡ Some (digits_value 16 word)
hex_result word r is read = search (rules, without_leading_plus_none, hex_word)

pub hex_parsed : {E : Type 0} (word : List ℕ) (r : Result ℕ E) → is_hex_word word ≡ true → ParsesUnsigned 64 16 word r → result_ok r ≡ word_of_hex word
unfolding word_of_hex
hex_parsed word r is read = hex_result word r is read ∙ sym (cond-true _ _ _ is)

pub hex_refused : (word : List ℕ) → is_hex_word word ≡ false → None ≡ word_of_hex word
unfolding word_of_hex
hex_refused word is = sym (cond-false _ _ _ is)
