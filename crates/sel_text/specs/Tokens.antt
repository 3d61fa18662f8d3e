-- The bytes inside of words, of names of types and of strings.
use Rattle.std.specs.Prelude.{ℕ, Bool, ◌&&◌, ◌||◌, ◌==◌, nat_le, Option, Some, None}
use Rattle.std.specs.Prelude.{if◌then◌else◌}
use Rattle.sel_text.specs.declared.notation.Next.{Next}
use Rattle.sel_text.specs.declared.notation.Next.TheVariants.{After, FixedBracket, ListBracket}
use Rattle.sel_text.specs.declared.notation.Next.TheVariants.{Quoted, StructBracket, TypeWord}
use Rattle.sel_text.specs.declared.notation.Next.TheVariants.{Word}
use Rattle.sel_text.specs.declared.tokens.Word.{Word as WordSoFar}
use Rattle.sel_text.specs.declared.tokens.Word.TheVariants.{N, Nu, Nul, T, Tr, Tru, F as FalseF}
use Rattle.sel_text.specs.declared.tokens.Word.TheVariants.{Fa, Fal, Fals}
use Rattle.sel_text.specs.declared.tokens.TypeWord.{TypeWord as TypeWordSoFar}
use Rattle.sel_text.specs.declared.tokens.TypeWord.TheVariants.{F as FixedF, B, Bo, Boo, Bi, Bin}
use Rattle.sel_text.specs.declared.tokens.TypeWord.TheVariants.{Bina, Binar, Binv, Binvi, Binvie}
use Rattle.sel_text.specs.declared.tokens.TypeWord.TheVariants.{Fi, Fix, Fixe, I, I1, I12, I3, I6}
use Rattle.sel_text.specs.declared.tokens.TypeWord.TheVariants.{L, Li, Lis, S, St, Str, Stru}
use Rattle.sel_text.specs.declared.tokens.TypeWord.TheVariants.{Struc, U, Ut, Utf}
use Rattle.sel_text.specs.declared.tokens.Within.{Within}
use Rattle.sel_text.specs.declared.tokens.Within.TheVariants.{Text, Escape, UnitFirst, UnitSecond}
use Rattle.sel_text.specs.declared.tokens.Within.TheVariants.{LastThree, LastTwo, LastOne}
use Rattle.sel_text.specs.declared.tokens.Within.TheVariants.{HighTwo, HighOne, LowBackslash}
use Rattle.sel_text.specs.declared.tokens.Within.TheVariants.{LowLetter, LowFirst, LowSecond}
use Rattle.sel_text.specs.declared.tokens.Within.TheVariants.{ByteOne, ByteTwo, ByteThree}
use Rattle.sel_text.specs.declared.tokens.Within.TheVariants.{AfterE0, AfterEd, AfterF0, AfterF4}

-- What follows a right byte; none if the byte is not right.
abbrev pub when : Bool → Next → Option Next
when right next = if right then Some next else None

-- What follows a further byte of `null`, `true` or `false`.
abbrev pub after_word_byte : WordSoFar → ℕ → Option Next
after_word_byte N byte = when (byte == 117) (Word Nu)
after_word_byte Nu byte = when (byte == 108) (Word Nul)
after_word_byte Nul byte = when (byte == 108) After
after_word_byte T byte = when (byte == 114) (Word Tr)
after_word_byte Tr byte = when (byte == 117) (Word Tru)
after_word_byte Tru byte = when (byte == 101) After
after_word_byte FalseF byte = when (byte == 97) (Word Fa)
after_word_byte Fa byte = when (byte == 108) (Word Fal)
after_word_byte Fal byte = when (byte == 115) (Word Fals)
after_word_byte Fals byte = when (byte == 101) After

-- What follows the byte after `b` in the name of a type: `bool`, `binary` or `binview`.
abbrev pub b_byte : ℕ → Option Next
b_byte byte =
    if byte == 111 then Some (TypeWord Bo) else if byte == 105 then Some (TypeWord Bi) else None

-- What follows the byte after `bin`: `binary` or `binview`.
abbrev pub bin_byte : ℕ → Option Next
bin_byte byte =
    if byte == 97 then Some (TypeWord Bina) else if byte == 118 then Some (TypeWord Binv) else None

-- What follows the byte after `i`: `i8`, `i16`, `i32`, `i64` or `i128`.
abbrev pub i_byte : ℕ → Option Next
i_byte byte =
    if byte == 56 then Some After else
    if byte == 49 then Some (TypeWord I1) else
    if byte == 51 then Some (TypeWord I3) else
    if byte == 54 then Some (TypeWord I6) else None

-- What follows the byte after `i1` or `u1`: 16 or 128 bits.
abbrev pub i1_byte : ℕ → Option Next
i1_byte byte =
    if byte == 54 then Some After else if byte == 50 then Some (TypeWord I12) else None

-- What follows the byte after `u`: `utf8`, or a number of bits as after `i`.
abbrev pub u_byte : ℕ → Option Next
u_byte byte = if byte == 116 then Some (TypeWord Ut) else i_byte byte

-- What follows a further byte of the name of a type.
abbrev pub after_name_byte : TypeWordSoFar → ℕ → Option Next
after_name_byte B byte = b_byte byte
after_name_byte Bin byte = bin_byte byte
after_name_byte I byte = i_byte byte
after_name_byte I1 byte = i1_byte byte
after_name_byte U byte = u_byte byte
after_name_byte Bo byte = when (byte == 111) (TypeWord Boo)
after_name_byte Boo byte = when (byte == 108) After
after_name_byte Bi byte = when (byte == 110) (TypeWord Bin)
after_name_byte Bina byte = when (byte == 114) (TypeWord Binar)
after_name_byte Binar byte = when (byte == 121) After
after_name_byte Binv byte = when (byte == 105) (TypeWord Binvi)
after_name_byte Binvi byte = when (byte == 101) (TypeWord Binvie)
after_name_byte Binvie byte = when (byte == 119) After
after_name_byte FixedF byte = when (byte == 105) (TypeWord Fi)
after_name_byte Fi byte = when (byte == 120) (TypeWord Fix)
after_name_byte Fix byte = when (byte == 101) (TypeWord Fixe)
after_name_byte Fixe byte = when (byte == 100) FixedBracket
after_name_byte I12 byte = when (byte == 56) After
after_name_byte I3 byte = when (byte == 50) After
after_name_byte I6 byte = when (byte == 52) After
after_name_byte L byte = when (byte == 105) (TypeWord Li)
after_name_byte Li byte = when (byte == 115) (TypeWord Lis)
after_name_byte Lis byte = when (byte == 116) ListBracket
after_name_byte S byte = when (byte == 116) (TypeWord St)
after_name_byte St byte = when (byte == 114) (TypeWord Str)
after_name_byte Str byte = when (byte == 117) (TypeWord Stru)
after_name_byte Stru byte = when (byte == 99) (TypeWord Struc)
after_name_byte Struc byte = when (byte == 116) StructBracket
after_name_byte Ut byte = when (byte == 102) (TypeWord Utf)
after_name_byte Utf byte = when (byte == 56) After

-- Whether a byte is `low` to `high`.
abbrev pub is_between : ℕ → ℕ → ℕ → Bool
is_between byte low high = nat_le low byte && nat_le byte high

-- Whether a byte is a hexadecimal digit, of either case.
abbrev pub is_hexadecimal : ℕ → Bool
is_hexadecimal byte = is_between byte 48 57 || is_between byte 97 102 || is_between byte 65 70

-- What follows a byte between quotes: the closing quote, a backslash, or the first byte of a
-- character in UTF-8 (JSON: strings; RFC 3629).
abbrev pub text_byte : ℕ → Option Next
text_byte byte =
    if byte == 34 then Some After else
    if byte == 92 then Some (Quoted Escape) else
    if is_between byte 0x20 0x7f then Some (Quoted Text) else
    if is_between byte 0xc2 0xdf then Some (Quoted ByteOne) else
    if byte == 0xe0 then Some (Quoted AfterE0) else
    if byte == 0xed then Some (Quoted AfterEd) else
    if is_between byte 0xe1 0xef then Some (Quoted ByteTwo) else
    if byte == 0xf0 then Some (Quoted AfterF0) else
    if is_between byte 0xf1 0xf3 then Some (Quoted ByteThree) else
    if byte == 0xf4 then Some (Quoted AfterF4) else None

-- Whether a byte is the letter of an escape of one letter (JSON: strings).
abbrev pub is_escape_letter : ℕ → Bool
is_escape_letter byte =
    byte == 34 || byte == 92 || byte == 47 || byte == 98 || byte == 102 || byte == 110
    || byte == 114 || byte == 116

-- What follows the byte after a backslash (JSON: strings).
abbrev pub escape_byte : ℕ → Option Next
escape_byte byte =
    if is_escape_letter byte then Some (Quoted Text) else
    if byte == 117 then Some (Quoted UnitFirst) else None

-- What follows the first digit of a `\u` escape: a surrogate begins with `d`.
abbrev pub unit_first_byte : ℕ → Option Next
unit_first_byte byte =
    if byte == 100 || byte == 68 then Some (Quoted UnitSecond) else
    when (is_hexadecimal byte) (Quoted LastThree)

-- What follows the second digit of a `\u` escape that begins with `d`: after 8 to b the second
-- escape of a surrogate pair is needed; c to f are of the second escape (UTF-16).
abbrev pub unit_second_byte : ℕ → Option Next
unit_second_byte byte =
    if is_between byte 48 55 then Some (Quoted LastTwo) else
    if byte == 56 || byte == 57 || byte == 97 || byte == 98 || byte == 65 || byte == 66 then
    Some (Quoted HighTwo) else None

-- What follows the first digit of the second escape of a surrogate pair (UTF-16).
abbrev pub low_first_byte : ℕ → Option Next
low_first_byte byte = when (byte == 100 || byte == 68) (Quoted LowSecond)

-- What follows its second digit (UTF-16).
abbrev pub low_second_byte : ℕ → Option Next
low_second_byte byte = when (is_between byte 99 102 || is_between byte 67 70) (Quoted LastTwo)

-- What follows a further byte of a string (JSON: strings; RFC 3629).
abbrev pub after_string_byte : Within → ℕ → Option Next
after_string_byte Text byte = text_byte byte
after_string_byte Escape byte = escape_byte byte
after_string_byte UnitFirst byte = unit_first_byte byte
after_string_byte UnitSecond byte = unit_second_byte byte
after_string_byte LastThree byte = when (is_hexadecimal byte) (Quoted LastTwo)
after_string_byte LastTwo byte = when (is_hexadecimal byte) (Quoted LastOne)
after_string_byte LastOne byte = when (is_hexadecimal byte) (Quoted Text)
after_string_byte HighTwo byte = when (is_hexadecimal byte) (Quoted HighOne)
after_string_byte HighOne byte = when (is_hexadecimal byte) (Quoted LowBackslash)
after_string_byte LowBackslash byte = when (byte == 92) (Quoted LowLetter)
after_string_byte LowLetter byte = when (byte == 117) (Quoted LowFirst)
after_string_byte LowFirst byte = low_first_byte byte
after_string_byte LowSecond byte = low_second_byte byte
after_string_byte ByteOne byte = when (is_between byte 0x80 0xbf) (Quoted Text)
after_string_byte ByteTwo byte = when (is_between byte 0x80 0xbf) (Quoted ByteOne)
after_string_byte ByteThree byte = when (is_between byte 0x80 0xbf) (Quoted ByteTwo)
after_string_byte AfterE0 byte = when (is_between byte 0xa0 0xbf) (Quoted ByteOne)
after_string_byte AfterEd byte = when (is_between byte 0x80 0x9f) (Quoted ByteOne)
after_string_byte AfterF0 byte = when (is_between byte 0x90 0xbf) (Quoted ByteTwo)
after_string_byte AfterF4 byte = when (is_between byte 0x80 0x8f) (Quoted ByteTwo)
