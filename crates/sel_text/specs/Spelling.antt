-- The canonical spelling of a text: without the white space between tokens, and with each string
-- spelled as it is printed.
use Rattle.std.specs.Prelude.{ℕ, ◌+◌, ◌-◌, ◌*◌, Bool, ◌&&◌, ◌||◌, List, [], ◌∷◌, ◌++◌}
use Rattle.std.specs.Prelude.{suc, zero, drop, if◌then◌else◌, ◌==◌, nat_lt, nat_le, Option, Some, None}
use Rattle.std.specs.Prelude.{option_map, option_and_then, encode_utf8}
use Rattle.std.specs.Char.{digit_value, is_digit}
use Rattle.std.specs.List.{flat_map}
use Rattle.sel_text.specs.Texts.{escaped}
use Rattle.sel_text.specs.declared.spelling.Place.{Place}
use Rattle.sel_text.specs.declared.spelling.Place.TheVariants.{Between, Word, Prefix, Gap}
use Rattle.sel_text.specs.declared.spelling.Place.TheVariants.{Quoted, Hexadecimal}

-- Whether a byte is white space: a space, a tab, a line feed or a carriage return (JSON: white
-- space).
abbrev pub is_space : ℕ → Bool
is_space byte = byte == 32 || byte == 9 || byte == 10 || byte == 13

-- Whether a byte is a token of its own: one of `[`, `]`, `(`, `)`, `,`, `<` and `>`.
abbrev pub is_mark : ℕ → Bool
is_mark byte =
    byte == 91 || byte == 93 || byte == 40 || byte == 41 || byte == 44 || byte == 60 || byte == 62

-- The number of the four hexadecimal digits at the front, of either case (JSON: strings).
abbrev pub unit_at : List ℕ → Option ℕ
unit_at (a ∷ b ∷ c ∷ d ∷ rest) =
    if is_digit a 16 && is_digit b 16 && is_digit c 16 && is_digit d 16 then
    Some (digit_value a * 4096 + digit_value b * 256 + digit_value c * 16 + digit_value d)
    else None
unit_at rest = None

-- Whether a number is the first of a surrogate pair (UTF-16).
abbrev pub is_high : ℕ → Bool
is_high unit = nat_le 0xd800 unit && nat_lt unit 0xdc00

-- Whether a number is the second of a surrogate pair (UTF-16).
abbrev pub is_low : ℕ → Bool
is_low unit = nat_le 0xdc00 unit && nat_lt unit 0xe000

-- The number of a further `\u` escape at the front.
abbrev pub next_unit : List ℕ → Option ℕ
next_unit (backslash ∷ letter ∷ rest) =
    if backslash == 92 && letter == 117 then unit_at rest else None
next_unit rest = None

-- The character of a surrogate pair, and the length of its escape after the backslash.
abbrev pub paired : ℕ → ℕ → Option (ℕ × ℕ)
paired high low =
    if is_low low then Some (0x10000 + (high - 0xd800) * 1024 + (low - 0xdc00), 11) else None

-- The character of a `\u` escape whose number is `unit`, and the length of the escape after the
-- backslash; `rest` begins with the digits. A surrogate alone is no character.
abbrev pub unit_escape : List ℕ → ℕ → Option (ℕ × ℕ)
unit_escape rest unit =
    if is_high unit then option_and_then (paired unit) (next_unit (drop 4 rest)) else
    if is_low unit then None else Some (unit, 5)

-- The character of an escape of one letter (JSON: strings).
abbrev pub short_escape : ℕ → Option ℕ
short_escape letter =
    if letter == 34 || letter == 92 || letter == 47 then Some letter else
    if letter == 98 then Some 8 else
    if letter == 102 then Some 12 else
    if letter == 110 then Some 10 else
    if letter == 114 then Some 13 else
    if letter == 116 then Some 9 else None

-- The character of the escape at the front, and its length, both without the backslash (JSON:
-- strings).
abbrev pub escape_at : List ℕ → Option (ℕ × ℕ)
escape_at [] = None
escape_at (letter ∷ rest) =
    if letter == 117 then option_and_then (unit_escape rest) (unit_at rest) else
    option_map (λ character. (character, 1)) (short_escape letter)

-- The state after a byte that is no white space and no mark: a quote begins a string, or bytes in
-- hexadecimal after an `h`; any other byte belongs to a word.
abbrev pub place_in_word : Place → ℕ → Place
place_in_word Prefix byte =
    if byte == 34 then Hexadecimal else if byte == 104 then Prefix else Word
place_in_word place byte = if byte == 34 then Quoted else if byte == 104 then Prefix else Word

-- The state after white space.
abbrev pub place_after_space : Place → Place
place_after_space Between = Between
place_after_space place = Gap

-- The state after a byte, and how many further bytes belong to it, as those of an escape; none if
-- no token continues so.
abbrev pub next_place : Place → ℕ → List ℕ → Option (Place × ℕ)
next_place Quoted byte rest =
    if byte == 34 then Some (Word, 0) else
    if byte == 92 then option_map (λ escape. (Quoted, escape.1)) (escape_at rest) else
    if nat_lt byte 32 then None else Some (Quoted, 0)
next_place Hexadecimal byte rest = Some (if byte == 34 then Word else Hexadecimal, 0)
next_place Gap byte rest =
    if is_space byte then Some (Gap, 0) else if is_mark byte then Some (Between, 0) else None
next_place place byte rest =
    if is_space byte then Some (place_after_space place, 0) else
    if is_mark byte then Some (Between, 0) else Some (place_in_word place byte, 0)

-- The canonical spelling of an escape: as its character is printed.
abbrev pub escape_spelled : Option (ℕ × ℕ) → List ℕ
escape_spelled None = []
escape_spelled (Some escape) = flat_map escaped (encode_utf8 escape.0)

-- The canonical spelling of a byte: nothing for white space between tokens; an escape is spelled
-- whole at its backslash.
abbrev pub byte_spelled : Place → ℕ → List ℕ → List ℕ
byte_spelled Quoted byte rest =
    if byte == 92 then escape_spelled (escape_at rest) else byte ∷ []
byte_spelled Hexadecimal byte rest = byte ∷ []
byte_spelled place byte rest = if is_space byte then [] else byte ∷ []

-- The canonical spelling of the rest of a text, whose first `skipped` bytes belong to an escape
-- before it; none if it is not made of tokens.
abbrev pub spelled_from : Place → ℕ → List ℕ → Option (List ℕ)
spelled_from place skipped [] = Some []
spelled_from place (suc skipped) (byte ∷ rest) = spelled_from place skipped rest
spelled_from place zero (byte ∷ rest) =
    option_and_then (λ next. option_map (λ more. byte_spelled place byte rest ++ more)
    (spelled_from next.0 next.1 rest)) (next_place place byte rest)

-- The canonical spelling of a text. None if white space stands inside of a word or between two
-- words, or a string has a wrong escape or a byte that must be escaped.
abbrev pub spelled : List ℕ → Option (List ℕ)
spelled text = spelled_from Between 0 text
