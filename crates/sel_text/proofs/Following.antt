-- What may follow a token, whichever way its bytes are spelled.
use Rattle.std.proofs.Common.{◌≡◌, ℕ, Bool, true, false, refl, arith, Some, None, subst, inl, inr, ◌≤◌, ◌||◌, Option, ◌==◌, if◌then◌else◌}
use Rattle.std.proofs.lemmas.Bool.{agree_below, agree_below_at, cases_lt}
use Rattle.sel_text.proofs.Common.{common_steps, cond_both, nat_tests, after_byte, closes, name_byte, value_byte, is_mark, is_space, place_in_word, Bracket, Change, Keep, Close, Next, Place, Between, Gap, Prefix, PlaceWord, InString, InHex, TypeWordSoFar, B, Within, Text, ByteOne, ByteTwo, ByteThree, AfterE0, AfterEd, AfterF0, AfterF4, WordSoFar}
use Rattle.sel_text.specs.declared.notation.Next.TheVariants.{FirstValue, Value, FirstName, Name, SizeDigit, After, Negative, Digit, HexQuote, HexFirst, HexSecond, Word, TypeWord, Quoted}

-- ---- what may come next

-- Whether white space may be before the next token.
abbrev pub is_spaced : Next → Bool
is_spaced SizeDigit = false
is_spaced Negative = false
is_spaced Digit = false
is_spaced HexQuote = false
is_spaced HexFirst = false
is_spaced HexSecond = false
is_spaced (Word word) = false
is_spaced (TypeWord word) = false
is_spaced (Quoted within) = false
is_spaced next = true

-- Whether the next byte is outside of strings and of bytes in hexadecimal.
abbrev pub is_unquoted : Next → Bool
is_unquoted HexQuote = false
is_unquoted HexFirst = false
is_unquoted HexSecond = false
is_unquoted (Quoted within) = false
is_unquoted next = true

-- Whether the next byte is a byte of a character of a string.
abbrev pub is_character : Within → Bool
is_character Text = true
is_character ByteOne = true
is_character ByteTwo = true
is_character ByteThree = true
is_character AfterE0 = true
is_character AfterEd = true
is_character AfterF0 = true
is_character AfterF4 = true
is_character within = false

abbrev pub is_in_string : Next → Bool
is_in_string (Quoted within) = is_character within
is_in_string next = false

abbrev pub is_prefix : Next → Bool
is_prefix HexQuote = true
is_prefix next = false

abbrev pub is_in_hex : Next → Bool
is_in_hex HexFirst = true
is_in_hex HexSecond = true
is_in_hex next = false

-- What may come next after a lexical state.
abbrev pub may_follow : Place → Next → Bool
may_follow Between next = is_spaced next
may_follow Gap next = is_spaced next
may_follow PlaceWord next = is_unquoted next
may_follow Prefix next = is_prefix next
may_follow InString next = is_in_string next
may_follow InHex next = is_in_hex next

-- Whether a value, if there is one, passes a test.
abbrev pub every : {A : Type 0} → (A → Bool) → Option A → Bool
every test None = true
every test (Some value) = test value

-- The state after a byte that is spelled as it is.
abbrev pub placed : Place → ℕ → Place
placed InString byte = if byte == 34 then PlaceWord else InString
placed InHex byte = if byte == 34 then PlaceWord else InHex
placed place byte = if is_mark byte then Between else place_in_word place byte

-- Whether a byte is spelled in another way: a backslash in a string, and white space between tokens.
abbrev pub is_changed : Place → ℕ → Bool
is_changed InString byte = byte == 92
is_changed InHex byte = false
is_changed place byte = is_space byte

-- What comes next may follow the state after a byte.
abbrev pub leads : Place → ℕ → Next × Change → Bool
leads place byte step = may_follow (placed place byte) step.0

word_leads : (word : WordSoFar) (top : Option Bracket) (byte : ℕ) → every (leads Between byte) (after_byte (Word word) top byte) ≡ true
word_leads word top byte = grind (arith, nat_tests)

name_leads : (word : TypeWordSoFar) (top : Option Bracket) (byte : ℕ) → every (leads Between byte) (after_byte (TypeWord word) top byte) ≡ true
name_leads B top byte = grind (arith, nat_tests)
name_leads word top byte = grind (arith, nat_tests)

-- A test that computes to true for each byte below 128, and holds from there on, holds for each byte.
all_bytes : (test : ℕ → Bool) → agree_below test (λ byte. true) 128 ≡ true → ((byte : ℕ) → 128 ≤ byte → test byte ≡ true) → (byte : ℕ) → test byte ≡ true
all_bytes test low high byte = elim (cases_lt byte 128) [ inl small ↦ agree_below_at test (λ byte. true) 128 byte low small | inr large ↦ high byte large ]

value_leads : (before : Next) (byte : ℕ) → is_space byte ≡ false → every (leads Between byte) (value_byte before byte) ≡ true
value_leads before byte other =
    subst (λ space. (space || every (leads Between byte) (value_byte before byte)) ≡ true) other
    (all_bytes (λ byte. is_space byte || every (leads Between byte) (value_byte before byte)) refl (λ byte high. grind (arith, nat_tests, high)) byte)

name_byte_leads : (before : Next) (byte : ℕ) → is_space byte ≡ false → every (leads Between byte) (name_byte before byte) ≡ true
name_byte_leads before byte other = grind (arith, nat_tests, all_bytes)

closing_leads : (top : Option Bracket) (byte : ℕ) → closes top byte ≡ true → every (leads Between byte) (Some (After, Close)) ≡ true
closing_leads top byte is = grind (arith, nat_tests)

first_leads : (top : Option Bracket) (byte : ℕ) (next : Option (Next × Change)) → every (leads Between byte) next ≡ true → every (leads Between byte) (if closes top byte then Some (After, Close) else next) ≡ true
first_leads top byte next led = cond_both (closes top byte) _ _ (λ o. every (leads Between byte) o ≡ true) (closing_leads top byte) (λ _. led)

spaced_unquoted : (next : Next) → is_spaced next ≡ true → is_unquoted next ≡ true
spaced_unquoted next may = grind (arith, common_steps)

byte_leads : (next : Next) (top : Option Bracket) (byte : ℕ) → is_unquoted next ≡ true → is_space byte ≡ false → every (leads Between byte) (after_byte next top byte) ≡ true
byte_leads FirstValue top byte outside other = first_leads top byte _ (value_leads FirstValue byte other)
byte_leads Value top byte outside other = value_leads Value byte other
byte_leads FirstName top byte outside other = first_leads top byte _ (name_byte_leads FirstName byte other)
byte_leads Name top byte outside other = name_byte_leads Name byte other
byte_leads (Word word) top byte outside other = word_leads word top byte
byte_leads (TypeWord word) top byte outside other = name_leads word top byte
byte_leads next top byte outside other = first_of (cc, grind (arith, nat_tests, other))

within_leads : (within : Within) (top : Option Bracket) (byte : ℕ) → is_character within ≡ true → (byte == 92) ≡ false → every (leads InString byte) (after_byte (Quoted within) top byte) ≡ true
within_leads Text top byte may other = grind (arith, nat_tests, other)
within_leads within top byte may other = first_of (cc, grind (arith, nat_tests, other))

-- A byte that is spelled as it is leads to what may follow it.
pub all_lead : (place : Place) (next : Next) (top : Option Bracket) (byte : ℕ) → may_follow place next ≡ true → is_changed place byte ≡ false → every (leads place byte) (after_byte next top byte) ≡ true
all_lead Between next top byte may other = byte_leads next top byte (spaced_unquoted next may) other
all_lead Gap next top byte may other = byte_leads next top byte (spaced_unquoted next may) other
all_lead PlaceWord next top byte may other = byte_leads next top byte may other
all_lead InString (Quoted within) top byte may other = within_leads within top byte may other
all_lead Prefix HexQuote top byte may other = grind (arith, nat_tests)
all_lead InHex HexFirst top byte may other = grind (arith, nat_tests)
all_lead InHex HexSecond top byte may other = grind (arith, nat_tests)
all_lead place next top byte may other = absurd cc

pub space_closes : (top : Option Bracket) (byte : ℕ) → is_space byte ≡ true → closes top byte ≡ false
space_closes top byte space = grind (arith, nat_tests)

-- White space before a token.
pub stays : (next : Next) (top : Option Bracket) (byte : ℕ) → is_spaced next ≡ true → is_space byte ≡ true → after_byte next top byte ≡ Some (next, Keep)
stays next top byte may space = grind (arith, common_steps, space_closes)
