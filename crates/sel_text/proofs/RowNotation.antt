-- The text of rows that fit a type is in the notation of rows.
use Rattle.std.proofs.Common.{◌≡◌, ◌<◌, ℕ, ℤ, pos, zero, ◌^◌, Bool, true, false, List, [], ◌∷◌, ◌++◌, length, map, get_or, refl, ap, sym, ◌∙◌, append-nil, arith, lit<, Some, subst}
use Rattle.sel_text.proofs.Common.{common_steps, bracketed, parenthesized, codes, nat_lt, not, ◌&&◌, ◌==◌, if◌then◌else◌, signed_decimal, mag, flat_map, join_with_byte, list_all, AllDigits, nat_tests, decimal_digit, decimal_is_IsNumeral_wide, IsUtf8-from_is_utf8, and_first, and_second, Shape, of_large_binary, of_binary_view, of_utf8_view, Value as RowValue, are_bytes, fits, fits_bytes, closes, closing, goes_on, is_row_notation, is_mark, is_space, bytes_text, hex_byte, hex_text, text_of, value_text, is_between, Bracket, Square, Round, Child, Fields, Keep}
use Rattle.sel_text.proofs.Commas.{after, inside, joined_inside}
use Rattle.sel_text.proofs.Ends.{few_digits, first_digit}
use Rattle.sel_text.proofs.StringNotation.{letters_lead}
use Rattle.sel_text.proofs.TypeNotation.{digit_between, step_to}
use Rattle.sel_text.proofs.ValueTexts.{Each, rows_have}
use Rattle.sel_text.specs.declared.notation.Next.TheVariants.{FirstValue, Value, After, Negative, Digit, HexFirst}

-- Before a mark, a text is a value. It begins with a byte that is no white space and closes nothing.
abbrev pub begins_value : ℕ → Bool
begins_value byte = not (is_space byte) && not (byte == 93) && not (byte == 41) && not (byte == 62)

record Reads (text : List ℕ) : Type 0 where
  first : ℕ
  rest : List ℕ
  text_is : text ≡ first ∷ rest
  begins : begins_value first ≡ true
  read : (brackets : List Bracket) (mark : ℕ) (more : List ℕ) → is_mark mark ≡ true → goes_on Value brackets (text ++ (mark ∷ more)) ≡ goes_on After brackets (mark ∷ more)

reads : (first : ℕ) (rest : List ℕ) → begins_value first ≡ true →
    ((brackets : List Bracket) (mark : ℕ) (more : List ℕ) → is_mark mark ≡ true → goes_on Value brackets (first ∷ (rest ++ (mark ∷ more))) ≡ goes_on After brackets (mark ∷ more)) → Reads (first ∷ rest)
reads first rest begins read = record { first = first; rest = rest; text_is = refl; begins = begins; read = read }

-- ---- numbers

pub no_digit : (mark : ℕ) → is_mark mark ≡ true → is_between mark 48 57 ≡ false
no_digit mark is = grind (arith, nat_tests, is)

digits_read : (ds : List ℕ) (brackets : List Bracket) (mark : ℕ) (more : List ℕ) → AllDigits 10 ds → is_mark mark ≡ true → goes_on Digit brackets (ds ++ (mark ∷ more)) ≡ goes_on After brackets (mark ∷ more)
digits_read [] brackets mark more all is = grind (arith, common_steps, no_digit)
digits_read (c ∷ ds) brackets mark more all is = grind (arith, common_steps, digit_between, step_to, (digits_read ds brackets mark more all.1 is))

-- Digits without a leading zero.
whole_reads : (ds : List ℕ) → 0 < length ds → AllDigits 10 ds → 48 < get_or ds 0 0 → Reads ds
whole_reads [] some all lead = absurd (omega arith)
whole_reads (c ∷ ds) some all lead =
    reads c ds (grind (arith, nat_tests, all.0)) (λ brackets mark more is. step_to Value Digit Keep brackets c (ds ++ (mark ∷ more)) (grind (arith, nat_tests, all.0, lead)) ∙ digits_read ds brackets mark more all.1 is)

below_reads : (ds : List ℕ) → 0 < length ds → AllDigits 10 ds → 48 < get_or ds 0 0 → Reads (45 ∷ ds)
below_reads [] some all lead = absurd (omega arith)
below_reads (c ∷ ds) some all lead =
    reads 45 (c ∷ ds) refl (λ brackets mark more is. step_to Negative Digit Keep brackets c (ds ++ (mark ∷ more)) (grind (arith, nat_tests, all.0, lead)) ∙ digits_read ds brackets mark more all.1 is)

number_reads : (z : ℤ) → mag z < 2 ^ 128 → Reads (signed_decimal z)
number_reads (pos zero) small = subst Reads (sym (decimal_digit 0 (lit< tt))) (reads 48 [] refl (λ brackets mark more is. refl))
number_reads z small = grind (arith, common_steps, few_digits, decimal_is_IsNumeral_wide, whole_reads, below_reads, first_digit)

-- ---- words, strings and bytes in hexadecimal

null_reads : Reads (codes "null")
null_reads = reads 110 (117 ∷ 108 ∷ 108 ∷ []) refl (λ brackets mark more is. refl)

truth_reads : (t : Bool) → Reads (if t then codes "true" else codes "false")
truth_reads true = reads 116 (114 ∷ 117 ∷ 101 ∷ []) refl (λ brackets mark more is. refl)
truth_reads false = reads 102 (97 ∷ 108 ∷ 115 ∷ 101 ∷ []) refl (λ brackets mark more is. refl)

hex_read : (bytes : List ℕ) (brackets : List Bracket) (more : List ℕ) → are_bytes bytes ≡ true → goes_on HexFirst brackets (flat_map hex_byte bytes ++ (34 ∷ more)) ≡ goes_on After brackets more
hex_read [] brackets more all = refl
hex_read (b ∷ bytes) brackets more all = grind (arith, common_steps, and_first, and_second, (hex_read bytes brackets more (and_second (nat_lt b 256) (are_bytes bytes) all)))

hex_reads : (bytes : List ℕ) → are_bytes bytes ≡ true → Reads (hex_text bytes)
hex_reads bytes all = grind (arith, common_steps, reads, hex_read)

bytes_read : (s : Shape) (bytes : List ℕ) → fits_bytes s bytes ≡ true → Reads (bytes_text s bytes)
bytes_read of_large_binary bytes fit = hex_reads bytes fit
bytes_read of_binary_view bytes fit = hex_reads bytes fit
bytes_read of_utf8_view bytes fit = let u = IsUtf8-from_is_utf8 bytes fit in grind (arith, common_steps, u, reads, letters_lead)
bytes_read s bytes fit = absurd cc

-- ---- values in brackets

-- Brackets of values.
abbrev pub holds_values : Bracket → Bool
holds_values Square = true
holds_values Round = true
holds_values Child = false
holds_values Fields = false

closed : (bracket : Bracket) (brackets : List Bracket) (more : List ℕ) → goes_on After (bracket ∷ brackets) (closing bracket ∷ more) ≡ goes_on After brackets more
closed bracket brackets more = grind (arith, common_steps)

comma : (bracket : Bracket) (brackets : List Bracket) (more : List ℕ) → holds_values bracket ≡ true → goes_on After (bracket ∷ brackets) (44 ∷ more) ≡ goes_on Value (bracket ∷ brackets) more
comma bracket brackets more holds = grind (arith, common_steps)

closing_mark : (bracket : Bracket) → is_mark (closing bracket) ≡ true
closing_mark bracket = grind (arith, common_steps)

-- What follows a value begins with a mark.
marked : (texts : List (List ℕ)) (bracket : Bracket) (more : List ℕ) → (mark : ℕ) × (rest : List ℕ) × (after (closing bracket) texts more ≡ mark ∷ rest) × (is_mark mark ≡ true)
marked [] bracket more = (closing bracket, more, refl, closing_mark bracket)
marked (text ∷ texts) bracket more = (44, text ++ after (closing bracket) texts more, refl, refl)

read_before : (text : List ℕ) → Reads text → (brackets : List Bracket) (texts : List (List ℕ)) (bracket : Bracket) (more : List ℕ) →
    goes_on Value brackets (text ++ after (closing bracket) texts more) ≡ goes_on After brackets (after (closing bracket) texts more)
read_before text reads brackets texts bracket more =
    let m = marked texts bracket more in
    ap (λ behind. goes_on Value brackets (text ++ behind)) m.2 ∙ reads.read brackets m.0 m.1 m.3 ∙ ap (goes_on After brackets) (sym m.2)

commas_read : (texts : List (List ℕ)) → Each Reads texts → (bracket : Bracket) (brackets : List Bracket) (more : List ℕ) → holds_values bracket ≡ true →
    goes_on After (bracket ∷ brackets) (after (closing bracket) texts more) ≡ goes_on After brackets more
commas_read [] each bracket brackets more holds = closed bracket brackets more
commas_read (text ∷ texts) each bracket brackets more holds = grind (arith, common_steps, comma, read_before, (commas_read texts each.1 bracket brackets more holds))

-- The first value after an opening bracket.
closes_none : (bracket : Bracket) (c : ℕ) → begins_value c ≡ true → closes (Some bracket) c ≡ false
closes_none bracket c begins = grind (arith, nat_tests)

first_read : (text : List ℕ) → Reads text → (bracket : Bracket) (brackets : List Bracket) (more : List ℕ) → goes_on FirstValue (bracket ∷ brackets) (text ++ more) ≡ goes_on Value (bracket ∷ brackets) (text ++ more)
first_read text reads bracket brackets more = grind (arith, common_steps, closes_none)

all_read : (texts : List (List ℕ)) → Each Reads texts → (bracket : Bracket) (brackets : List Bracket) (more : List ℕ) → holds_values bracket ≡ true →
    goes_on FirstValue (bracket ∷ brackets) (inside (closing bracket) texts more) ≡ goes_on After brackets more
all_read texts each bracket brackets more holds = grind (arith, common_steps, first_read, read_before, commas_read)

bracketed_reads : (opening : ℕ) (bracket : Bracket) (texts : List (List ℕ)) → begins_value opening ≡ true → holds_values bracket ≡ true →
    ((brackets : List Bracket) (more : List ℕ) → goes_on Value brackets (opening ∷ more) ≡ goes_on FirstValue (bracket ∷ brackets) more) → Each Reads texts → Reads (opening ∷ join_with_byte 44 texts ++ closing bracket ∷ [])
bracketed_reads opening bracket texts begins holds opens each = grind (arith, common_steps, reads, joined_inside, all_read)

list_reads : (texts : List (List ℕ)) → Each Reads texts → Reads (bracketed texts)
list_reads texts each = bracketed_reads 91 Square texts refl refl (λ brackets more. refl) each

tuple_reads : (texts : List (List ℕ)) → Each Reads texts → Reads (parenthesized texts)
tuple_reads texts each = bracketed_reads 40 Round texts refl refl (λ brackets more. refl) each

-- The text of rows is in the notation.
pub rows_in_notation : (s : Shape) (vs : List RowValue) → list_all (fits s) vs ≡ true → is_row_notation (text_of s vs) ≡ true
rows_in_notation s vs fit =
    let texts = map (value_text s) vs in
    ap (goes_on FirstValue (Square ∷ [])) (sym (append-nil (join_with_byte 44 texts ++ 93 ∷ [])) ∙ joined_inside 93 texts [])
    ∙ all_read texts (rows_have Reads null_reads truth_reads number_reads bytes_read list_reads tuple_reads s vs fit) Square [] [] refl
