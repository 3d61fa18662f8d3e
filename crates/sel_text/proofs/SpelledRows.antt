-- The text of a type, and that of rows, is its own canonical spelling.
use Rattle.std.proofs.Common.{◌≢◌, ◌≤◌, ◌≡◌, ℕ, suc, ℤ, pos, negsuc, ◌+◌, ◌/◌, ◌%◌, ◌<◌, ◌^◌, Bool, true, false, List, [], ◌∷◌, ◌++◌, length, map, Some, refl, ap, sym, ◌∙◌, arith, append_assoc, append-nil}
use Rattle.sel_text.proofs.Common.{common_steps, cond_both, ◌==◌, codes, nat_lt, if◌then◌else◌, option_map, option_and_then, digit_char, is_digit, decimal, signed_decimal, mag, flat_map, join_with_byte, list_all, nat_tests, decimal_is_IsNumeral_wide, digit_value-digit_char, encode_ascii, AllDigits, not, ◌&&◌, Shape, Shapes, no_shapes, next_shape, of_large_list, of_fixed_size_list, of_struct, Value, both, and_first, and_second, fits, fits_bytes, escape_at, escape_spelled, is_mark, is_space, spelled, spelled_from, unit_at, unit_escape, escaped, hex_byte, hex_text, is_text_shape, bytes_text, type_text, type_texts, widths_written, all_widths_written, quoted, text_of, value_text, Place, Between, PlaceWord as Word, Prefix, InString as Quoted, InHex as Hexadecimal}
use Rattle.sel_text.proofs.Decoded.{no_quote}
use Rattle.sel_text.proofs.Ends.{few_digits}
use Rattle.sel_text.proofs.Escapes.{each_escape}
use Rattle.sel_text.proofs.Spellings.{appended, begins}
use Rattle.sel_text.proofs.ValueTexts.{Each, rows_have}

-- ---- bytes that are spelled as they are

-- A byte that is no white space, and begins no string and no bytes in hexadecimal.
abbrev is_plain_byte : ℕ → Bool
is_plain_byte byte = not (is_space byte) && not (byte == 34) && not (byte == 104)

others : (byte : ℕ) → is_plain_byte byte ≡ true → (is_space byte ≡ false) × ((byte == 34) ≡ false) × ((byte == 104) ≡ false)
others byte plain = (grind (arith, nat_tests, plain), grind (arith, nat_tests, plain), grind (arith, nat_tests, plain))

-- The state after a plain byte.
abbrev after_plain : Bool → Place
after_plain mark = if mark then Between else Word

pick : (mark : Bool) (byte : ℕ) (rest : List ℕ) →
    option_and_then (λ (next : Place × ℕ). option_map (λ more. (byte ∷ []) ++ more) (spelled_from next.0 next.1 rest)) (if mark then Some (Between, 0) else Some (Word, 0)) ≡ option_map (λ more. byte ∷ more) (spelled_from (after_plain mark) 0 rest)
pick true byte rest = refl
pick false byte rest = refl

step_plain : (m : Bool) (byte : ℕ) (rest : List ℕ) → is_plain_byte byte ≡ true → spelled_from (after_plain m) 0 (byte ∷ rest) ≡ option_map (λ more. byte ∷ more) (spelled_from (after_plain (is_mark byte)) 0 rest)
step_plain true byte rest plain = let other = others byte plain in rw (other.0, other.1, other.2) (pick (is_mark byte) byte rest)
step_plain false byte rest plain = let other = others byte plain in rw (other.0, other.1, other.2) (pick (is_mark byte) byte rest)

digits_plain : (ds : List ℕ) → AllDigits 10 ds → list_all is_plain_byte ds ≡ true
digits_plain [] all = refl
digits_plain (c ∷ cs) all = both (is_plain_byte c) (list_all is_plain_byte cs) (let small = all.0 in grind (arith, nat_tests, small)) (digits_plain cs all.1)

-- ---- texts that are spelled as they are

-- From one state to another, a text is spelled as it is.
record Passes (before after : Place) (text : List ℕ) : Type 0 where
  passed : (rest : List ℕ) → spelled_from before 0 (text ++ rest) ≡ option_map (λ more. text ++ more) (spelled_from after 0 rest)

none_passes : (place : Place) → Passes place place []
none_passes place = record { passed = λ rest. sym (begins rest (spelled_from place 0 rest)) }

joined_passes : (p q r : Place) (a b : List ℕ) → Passes p q a → Passes q r b → Passes p r (a ++ b)
joined_passes p q r a b first second = record {
  passed = λ rest.
      ap (spelled_from p 0) (append_assoc a b rest) ∙ first.passed (b ++ rest) ∙ ap (option_map (λ more. a ++ more)) (second.passed rest) ∙ sym (appended a b (spelled_from r 0 rest));
}

-- Outside of strings and bytes in hexadecimal, a text is spelled as it is.
abbrev Keeps : List ℕ → Type 0
Keeps text = (m : Bool) → (after : Bool) × Passes (after_plain m) (after_plain after) text

none_keeps : Keeps []
none_keeps m = (m, none_passes (after_plain m))

joined_keeps : (a b : List ℕ) → Keeps a → Keeps b → Keeps (a ++ b)
joined_keeps a b first second m =
    let one = first m in
    let two = second one.0 in
    (two.0, joined_passes (after_plain m) (after_plain one.0) (after_plain two.0) a b one.1 two.1)

plain_keeps : (byte : ℕ) → is_plain_byte byte ≡ true → Keeps (byte ∷ [])
plain_keeps byte plain m = (is_mark byte, record { passed = λ rest. step_plain m byte rest plain })

plains_keep : (text : List ℕ) → list_all is_plain_byte text ≡ true → Keeps text
plains_keep [] all = none_keeps
plains_keep (byte ∷ text) all =
    joined_keeps (byte ∷ []) text (plain_keeps byte (and_first (is_plain_byte byte) (list_all is_plain_byte text) all)) (plains_keep text (and_second (is_plain_byte byte) (list_all is_plain_byte text) all))

-- ---- strings

-- The bytes of an escape are skipped.
skipped : (place : Place) (tail rest : List ℕ) → spelled_from place (length tail) (tail ++ rest) ≡ spelled_from place 0 rest
skipped place [] rest = refl
skipped place (byte ∷ tail) rest = skipped place tail rest

-- An escape is spelled as it is, if it is that of its character.
escape_passes : (b : ℕ) (tail : List ℕ) → b < 128 → ((rest : List ℕ) → escape_at (tail ++ rest) ≡ Some (b, length tail)) → escaped b ≡ 92 ∷ tail → Passes Quoted Quoted (92 ∷ tail)
escape_passes b tail low read is = record {
  passed = λ rest.
      ap (λ e. option_and_then (λ (next : Place × ℕ). option_map (λ more. escape_spelled e ++ more) (spelled_from next.0 next.1 (tail ++ rest))) (option_map (λ escape. (Quoted, escape.1)) e)) (read rest)
      ∙ ap (λ l. option_map (λ more. l ++ more) (spelled_from Quoted (length tail) (tail ++ rest))) (ap (flat_map escaped) (encode_ascii b low) ∙ append-nil (escaped b) ∙ is)
      ∙ ap (option_map (λ more. (92 ∷ tail) ++ more)) (skipped Quoted tail rest);
}

hex_digit : (d : ℕ) → d < 16 → is_digit (digit_char d) 16 ≡ true
hex_digit d small = let value = digit_value-digit_char d (omega arith) in grind (arith, nat_tests, value, small)

-- The escape of a byte in hexadecimal.
unit_read : (b : ℕ) (rest : List ℕ) → b < 32 → unit_at (48 ∷ 48 ∷ digit_char (b / 16) ∷ digit_char (b % 16) ∷ rest) ≡ Some b
unit_read b rest low = grind (arith, common_steps, hex_digit, digit_value-digit_char)

control_read : (b : ℕ) (rest : List ℕ) → b < 32 → escape_at (117 ∷ 48 ∷ 48 ∷ digit_char (b / 16) ∷ digit_char (b % 16) ∷ rest) ≡ Some (b, 5)
control_read b rest low =
    let digits = 48 ∷ 48 ∷ digit_char (b / 16) ∷ digit_char (b % 16) ∷ rest in
    ap (option_and_then (unit_escape digits)) (unit_read b rest low) ∙ grind (arith, nat_tests, low)

letter_passes : (b : ℕ) → b ≢ 34 → b ≢ 92 → 32 ≤ b → Passes Quoted Quoted (b ∷ [])
letter_passes b quote backslash high =
    let other : (b == 34) ≡ false = grind (arith, nat_tests, quote) in
    let plain : (b == 92) ≡ false = grind (arith, nat_tests, backslash) in
    let printed : nat_lt b 32 ≡ false = grind (arith, nat_tests, high) in
    record { passed = λ rest. rw (other, plain, printed) refl }

byte_passes : (b : ℕ) → Passes Quoted Quoted (escaped b)
byte_passes b =
    each_escape (λ b word. escaped b ≡ word → Passes Quoted Quoted word)
    (escape_passes 34 (34 ∷ []) (omega arith) (λ rest. refl)) (escape_passes 92 (92 ∷ []) (omega arith) (λ rest. refl)) (escape_passes 10 (110 ∷ []) (omega arith) (λ rest. refl))
    (escape_passes 13 (114 ∷ []) (omega arith) (λ rest. refl)) (escape_passes 9 (116 ∷ []) (omega arith) (λ rest. refl)) (escape_passes 8 (98 ∷ []) (omega arith) (λ rest. refl))
    (escape_passes 12 (102 ∷ []) (omega arith) (λ rest. refl))
    (λ b low n8 n9 n10 n12 n13. escape_passes b (117 ∷ 48 ∷ 48 ∷ hex_byte b) (omega (arith, low)) (λ rest. control_read b rest low))
    (λ b high quote backslash is. letter_passes b quote backslash high) b refl

string_passes : (bytes : List ℕ) → Passes Quoted Quoted (flat_map escaped bytes)
string_passes [] = none_passes Quoted
string_passes (b ∷ bytes) = joined_passes Quoted Quoted Quoted (escaped b) (flat_map escaped bytes) (byte_passes b) (string_passes bytes)

-- A quote begins a string, or ends one.
begin_passes : (m : Bool) → Passes (after_plain m) Quoted (34 ∷ [])
begin_passes true = record { passed = λ rest. refl }
begin_passes false = record { passed = λ rest. refl }

string_keeps : (bytes : List ℕ) → Keeps (quoted bytes)
string_keeps bytes m = (
  false,
  joined_passes (after_plain m) Quoted Word (34 ∷ []) (flat_map escaped bytes ++ 34 ∷ []) (begin_passes m) (joined_passes Quoted Quoted Word (flat_map escaped bytes) (34 ∷ []) (string_passes bytes) (record { passed = λ rest. refl })),
)

-- ---- bytes in hexadecimal

digit_passes : (d : ℕ) → Passes Hexadecimal Hexadecimal (digit_char d ∷ [])
digit_passes d = grind (arith, nat_tests, no_quote)

hex_byte_passes : (b : ℕ) → Passes Hexadecimal Hexadecimal (hex_byte b)
hex_byte_passes b = joined_passes Hexadecimal Hexadecimal Hexadecimal (digit_char (b / 16) ∷ []) (digit_char (b % 16) ∷ []) (digit_passes (b / 16)) (digit_passes (b % 16))

hex_passes : (bytes : List ℕ) → Passes Hexadecimal Hexadecimal (flat_map hex_byte bytes)
hex_passes [] = none_passes Hexadecimal
hex_passes (b ∷ bytes) = joined_passes Hexadecimal Hexadecimal Hexadecimal (hex_byte b) (flat_map hex_byte bytes) (hex_byte_passes b) (hex_passes bytes)

prefix_passes : (m : Bool) → Passes (after_plain m) Prefix (104 ∷ [])
prefix_passes true = record { passed = λ rest. refl }
prefix_passes false = record { passed = λ rest. refl }

hex_begins : (m : Bool) → Passes (after_plain m) Hexadecimal (104 ∷ 34 ∷ [])
hex_begins m = joined_passes (after_plain m) Prefix Hexadecimal (104 ∷ []) (34 ∷ []) (prefix_passes m) (record { passed = λ rest. refl })

hex_keeps : (bytes : List ℕ) → Keeps (hex_text bytes)
hex_keeps bytes m = (
  false,
  joined_passes (after_plain m) Hexadecimal Word (104 ∷ 34 ∷ []) (flat_map hex_byte bytes ++ 34 ∷ []) (hex_begins m) (joined_passes Hexadecimal Hexadecimal Word (flat_map hex_byte bytes) (34 ∷ []) (hex_passes bytes) (record { passed = λ rest. refl })),
)

-- ---- values

number_keeps : (z : ℤ) → mag z < 2 ^ 128 → Keeps (signed_decimal z)
number_keeps (pos n) small = plains_keep (decimal n) (digits_plain (decimal n) ((decimal_is_IsNumeral_wide n (few_digits n (omega (arith, small)))).0.1))
number_keeps (negsuc n) small =
    joined_keeps (45 ∷ []) (decimal (suc n)) (plain_keeps 45 refl) (plains_keep (decimal (suc n)) (digits_plain (decimal (suc n)) ((decimal_is_IsNumeral_wide (suc n) (few_digits (suc n) (omega (arith, small)))).0.1)))

bytes_keep : (s : Shape) (bytes : List ℕ) → fits_bytes s bytes ≡ true → Keeps (bytes_text s bytes)
bytes_keep s bytes fit = cond_both (is_text_shape s) _ _ Keeps (λ _. string_keeps bytes) (λ _. hex_keeps bytes)

truth_keeps : (t : Bool) → Keeps (if t then codes "true" else codes "false")
truth_keeps true = plains_keep (codes "true") refl
truth_keeps false = plains_keep (codes "false") refl

commas_keep : (texts : List (List ℕ)) → Each Keeps texts → Keeps (join_with_byte 44 texts)
commas_keep [] each = none_keeps
commas_keep (x ∷ []) each = each.0
commas_keep (x ∷ y ∷ texts) each =
    joined_keeps x (44 ∷ join_with_byte 44 (y ∷ texts)) each.0 (joined_keeps (44 ∷ []) (join_with_byte 44 (y ∷ texts)) (plain_keeps 44 refl) (commas_keep (y ∷ texts) each.1))

between_keeps : (first last : ℕ) (texts : List (List ℕ)) → is_plain_byte first ≡ true → is_plain_byte last ≡ true → Each Keeps texts → Keeps (first ∷ join_with_byte 44 texts ++ last ∷ [])
between_keeps first last texts begins ends each =
    joined_keeps (first ∷ []) (join_with_byte 44 texts ++ last ∷ []) (plain_keeps first begins) (joined_keeps (join_with_byte 44 texts) (last ∷ []) (commas_keep texts each) (plain_keeps last ends))

mutual
  type_keeps : (s : Shape) → widths_written s ≡ true → Keeps (type_text s)
  type_keeps (of_large_list s) written = joined_keeps (codes "list") _ (plains_keep (codes "list") refl) (between_keeps 60 62 (type_text s ∷ []) refl refl (type_keeps s written, tt))
  type_keeps (of_fixed_size_list s size) written =
      joined_keeps (codes "fixed") _ (plains_keep (codes "fixed") refl)
      (between_keeps 60 62 (decimal size ∷ type_text s ∷ []) refl refl
      (number_keeps (pos size) (grind (arith, nat_tests, and_first (nat_lt size (2 ^ 64)) _ written)), (type_keeps s (and_second _ _ written), tt)))
  type_keeps (of_struct ss) written = joined_keeps (codes "struct") _ (plains_keep (codes "struct") refl) (between_keeps 60 62 (type_texts ss) refl refl (types_keep ss written))
  type_keeps s written = plains_keep (type_text s) refl

  types_keep : (ss : Shapes) → all_widths_written ss ≡ true → Each Keeps (type_texts ss)
  types_keep no_shapes written = tt
  types_keep (next_shape s ss) written = (type_keeps s (and_first _ _ written), types_keep ss (and_second _ _ written))

kept_spelled : (text : List ℕ) → Keeps text → spelled text ≡ Some text
kept_spelled text kept = ap spelled (sym (append-nil text)) ∙ (kept true).1.passed [] ∙ ap Some (append-nil text)

-- The text of a type whose list sizes have 64 bits is its own canonical spelling.
pub type_spelled : (s : Shape) → widths_written s ≡ true → spelled (type_text s) ≡ Some (type_text s)
type_spelled s written = kept_spelled (type_text s) (type_keeps s written)

-- The text of rows that fit a type is its own canonical spelling.
pub rows_spelled : (s : Shape) (vs : List Value) → list_all (fits s) vs ≡ true → spelled (text_of s vs) ≡ Some (text_of s vs)
rows_spelled s vs fit =
    let list = λ (texts : List (List ℕ)) (each : Each Keeps texts). between_keeps 91 93 texts refl refl each in
    let tuple = λ (texts : List (List ℕ)) (each : Each Keeps texts). between_keeps 40 41 texts refl refl each in
    kept_spelled (text_of s vs) (list (map (value_text s) vs) (rows_have Keeps (plains_keep (codes "null") refl) truth_keeps number_keeps bytes_keep list tuple s vs fit))
