-- The text of a type is in the notation of types, also with white space between its tokens.
use Rattle.std.proofs.Common.{◌≡◌, ◌≢◌, ◌<◌, ℕ, ◌^◌, true, List, [], ◌∷◌, ◌++◌, length, get_or, refl, ap, sym, ◌∙◌, append-nil, arith, Some, Option, nat_lt}
use Rattle.sel_text.proofs.Common.{common_steps, digit_value, AllDigits, nat_tests, and_first, and_second, Shape, Shapes, no_shapes, next_shape, of_large_list, of_fixed_size_list, of_struct, after_byte, changed, goes_on, innermost, is_some_and, is_type_notation, is_between, type_text, type_texts, widths_written, all_widths_written, Bracket, Child, Fields, Change, Keep, Next, FirstName, Name, Size, SizeDigit, After}
use Rattle.sel_text.proofs.Commas.{after, inside, joined_inside}
use Rattle.sel_text.proofs.Ends.{numeral_has}

-- ---- a text of a type is in the notation

-- A byte leads on.
pub step_to : (next after : Next) (change : Change) (brackets : List Bracket) (byte : ℕ) (more : List ℕ) → after_byte next (innermost brackets) byte ≡ Some (after, change) →
    goes_on next brackets (byte ∷ more) ≡ goes_on after (changed change brackets) more
step_to next after change brackets byte more told = ap (is_some_and (λ (step : Next × Change). goes_on step.0 (changed step.1 brackets) more)) told

pub digit_between : (c : ℕ) → digit_value c < 10 → is_between c 48 57 ≡ true
digit_between c small = grind (arith, nat_tests, small)

digits_read : (ds more : List ℕ) (brackets : List Bracket) → AllDigits 10 ds → goes_on SizeDigit brackets (ds ++ (44 ∷ more)) ≡ goes_on Name brackets more
digits_read [] more brackets all = refl
digits_read (c ∷ ds) more brackets all = grind (arith, common_steps, step_to, digit_between, (digits_read ds more brackets all.1))

first_digit : (c : ℕ) → digit_value c < 10 → c ≢ 48 → (top : Option Bracket) → after_byte Size top c ≡ Some (SizeDigit, Keep)
first_digit c small some top = grind (arith, nat_tests, small)

size_read : (ds more : List ℕ) (brackets : List Bracket) → 0 < length ds → AllDigits 10 ds → (get_or ds 0 0 ≡ 48 → length ds ≡ 1) → goes_on Size brackets (ds ++ (44 ∷ more)) ≡ goes_on Name brackets more
size_read ds more brackets some all zeros = grind (arith, common_steps, step_to, first_digit, digits_read)

-- The first type in a bracket of fields.
first_name : (s : Shape) (brackets : List Bracket) (more : List ℕ) → goes_on FirstName (Fields ∷ brackets) (type_text s ++ more) ≡ goes_on Name (Fields ∷ brackets) (type_text s ++ more)
first_name (of_large_list s) brackets more = refl
first_name s brackets more = refl

mutual
  pub type_read : (s : Shape) → widths_written s ≡ true → (brackets : List Bracket) (more : List ℕ) → goes_on Name brackets (type_text s ++ more) ≡ goes_on After brackets more
  type_read (of_large_list s) written brackets more = grind (arith, common_steps, (type_read s written (Child ∷ brackets) (62 ∷ more)))
  type_read (of_fixed_size_list s size) written brackets more = grind (arith, common_steps, nat_tests, and_first, numeral_has, size_read, and_second, (type_read s (and_second (nat_lt size (2 ^ 64)) (widths_written s) written) (Child ∷ brackets) (62 ∷ more)))
  type_read (of_struct ss) written brackets more = grind (arith, common_steps, joined_inside, (types_read ss written brackets more))
  type_read s written brackets more = refl

  -- Further types, up to the closing bracket.
  commas_read : (ss : Shapes) → all_widths_written ss ≡ true → (brackets : List Bracket) (more : List ℕ) → goes_on After (Fields ∷ brackets) (after 62 (type_texts ss) more) ≡ goes_on After brackets more
  commas_read no_shapes written brackets more = refl
  commas_read (next_shape s ss) written brackets more = type_read s (and_first _ _ written) (Fields ∷ brackets) (after 62 (type_texts ss) more) ∙ commas_read ss (and_second _ _ written) brackets more

  types_read : (ss : Shapes) → all_widths_written ss ≡ true → (brackets : List Bracket) (more : List ℕ) → goes_on FirstName (Fields ∷ brackets) (inside 62 (type_texts ss) more) ≡ goes_on After brackets more
  types_read no_shapes written brackets more = refl
  types_read (next_shape s ss) written brackets more =
      first_name s brackets (after 62 (type_texts ss) more) ∙ type_read s (and_first _ _ written) (Fields ∷ brackets) (after 62 (type_texts ss) more) ∙ commas_read ss (and_second _ _ written) brackets more

-- The text of a type is in the notation.
pub type_in_notation : (s : Shape) → widths_written s ≡ true → is_type_notation (type_text s) ≡ true
type_in_notation s written = ap (goes_on Name []) (sym (append-nil (type_text s))) ∙ type_read s written [] []
