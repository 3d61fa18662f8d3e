-- The notation of rows and of types, byte by byte.
use Rattle.std.specs.Prelude.{◌≡◌, ℕ, ◌≤◌, ◌<◌, Bool, true, false, ◌||◌, ◌==◌, List, [], ◌∷◌, ◌++◌}
use Rattle.std.specs.Prelude.{Option, Some, None, option_map, if◌then◌else◌, length, take, suc}
use Rattle.sel_text.specs.Spelling.{is_space}
use Rattle.sel_text.specs.Tokens.{after_name_byte, after_string_byte, after_word_byte, is_between}
use Rattle.sel_text.specs.Tokens.{when}
use Rattle.sel_text.specs.declared.notation.Bracket.{Bracket}
use Rattle.sel_text.specs.declared.notation.Bracket.TheVariants.{Square, Round, Child, Fields}
use Rattle.sel_text.specs.declared.notation.Change.{Change}
use Rattle.sel_text.specs.declared.notation.Change.TheVariants.{Keep, Open, Close}
use Rattle.sel_text.specs.declared.notation.Next.{Next}
use Rattle.sel_text.specs.declared.notation.Next.TheVariants.{Rows, FirstValue, Value, FirstName}
use Rattle.sel_text.specs.declared.notation.Next.TheVariants.{Name, ListBracket, FixedBracket}
use Rattle.sel_text.specs.declared.notation.Next.TheVariants.{StructBracket, Size, SizeDigit}
use Rattle.sel_text.specs.declared.notation.Next.TheVariants.{SizeComma, After, Negative, Digit}
use Rattle.sel_text.specs.declared.notation.Next.TheVariants.{HexQuote, HexFirst, HexSecond, Word}
use Rattle.sel_text.specs.declared.notation.Next.TheVariants.{TypeWord, Quoted}
use Rattle.sel_text.specs.declared.tokens.TypeWord.TheVariants.{B, I, L, S, U, F as FixedF}
use Rattle.sel_text.specs.declared.tokens.Within.TheVariants.{Text}
use Rattle.sel_text.specs.declared.tokens.Word.TheVariants.{N, T, F as FalseF}

-- The closing bracket of an open bracket: `]`, `)` or `>`.
abbrev pub closing : Bracket → ℕ
closing Square = 93
closing Round = 41
closing Child = 62
closing Fields = 62

-- What follows a comma in a bracket: a value or the name of a type; none if the bracket has only
-- one item.
abbrev pub after_comma : Bracket → Option (Next × Change)
after_comma Square = Some (Value, Keep)
after_comma Round = Some (Value, Keep)
after_comma Child = None
after_comma Fields = Some (Name, Keep)

-- Whether a byte is the closing bracket of the innermost open bracket.
abbrev pub closes : Option Bracket → ℕ → Bool
closes None byte = false
closes (Some bracket) byte = byte == closing bracket

-- A byte inside of a token leaves the open brackets as they are.
abbrev pub kept : Option Next → Option (Next × Change)
kept next = option_map (λ next. (next, Keep)) next

-- What follows an opening bracket, or white space before it.
abbrev pub opened : Next → ℕ → ℕ → Next → Bracket → Option (Next × Change)
opened before byte expected next bracket =
    if is_space byte then Some (before, Keep) else
    if byte == expected then Some (next, Open bracket) else None

-- What follows the first byte of a value, or white space before it.
abbrev pub value_byte : Next → ℕ → Option (Next × Change)
value_byte before byte =
    if is_space byte then Some (before, Keep) else
    if byte == 91 then Some (FirstValue, Open Square) else
    if byte == 40 then Some (FirstValue, Open Round) else
    if byte == 110 then Some (Word N, Keep) else
    if byte == 116 then Some (Word T, Keep) else
    if byte == 102 then Some (Word FalseF, Keep) else
    if byte == 104 then Some (HexQuote, Keep) else
    if byte == 34 then Some (Quoted Text, Keep) else
    if byte == 45 then Some (Negative, Keep) else
    if byte == 48 then Some (After, Keep) else
    if is_between byte 49 57 then Some (Digit, Keep) else None

-- What follows a byte after an opening bracket of values.
abbrev pub first_value_byte : Option Bracket → ℕ → Option (Next × Change)
first_value_byte top byte =
    if closes top byte then Some (After, Close) else value_byte FirstValue byte

-- What follows the first byte of the name of a type, or white space before it.
abbrev pub name_byte : Next → ℕ → Option (Next × Change)
name_byte before byte =
    if is_space byte then Some (before, Keep) else
    if byte == 98 then Some (TypeWord B, Keep) else
    if byte == 102 then Some (TypeWord FixedF, Keep) else
    if byte == 105 then Some (TypeWord I, Keep) else
    if byte == 108 then Some (TypeWord L, Keep) else
    if byte == 110 then Some (Word N, Keep) else
    if byte == 115 then Some (TypeWord S, Keep) else
    if byte == 117 then Some (TypeWord U, Keep) else None

-- What follows a byte after the opening bracket of the fields of a struct type.
abbrev pub first_name_byte : Option Bracket → ℕ → Option (Next × Change)
first_name_byte top byte =
    if closes top byte then Some (After, Close) else name_byte FirstName byte

-- What follows the first digit of the size of a fixed-size list, or white space before it. There
-- are no leading zeros.
abbrev pub size_byte : ℕ → Option (Next × Change)
size_byte byte =
    if is_space byte then Some (Size, Keep) else
    if byte == 48 then Some (SizeComma, Keep) else
    if is_between byte 49 57 then Some (SizeDigit, Keep) else None

-- What follows the comma after the size, or white space before it.
abbrev pub size_comma_byte : ℕ → Option (Next × Change)
size_comma_byte byte =
    if is_space byte then Some (SizeComma, Keep) else
    if byte == 44 then Some (Name, Keep) else None

-- What follows a further digit of the size, or a byte after it.
abbrev pub size_digit_byte : ℕ → Option (Next × Change)
size_digit_byte byte =
    if is_between byte 48 57 then Some (SizeDigit, Keep) else size_comma_byte byte

-- What follows a byte in a bracket after a value or a type: the closing bracket or a comma.
abbrev pub in_bracket : Option Bracket → ℕ → Option (Next × Change)
in_bracket None byte = None
in_bracket (Some bracket) byte =
    if byte == closing bracket then Some (After, Close) else
    if byte == 44 then after_comma bracket else None

-- What follows a byte after a value or a type.
abbrev pub item_byte : Option Bracket → ℕ → Option (Next × Change)
item_byte top byte = if is_space byte then Some (After, Keep) else in_bracket top byte

-- What follows a further digit of a number, or a byte after it.
abbrev pub digit_byte : Option Bracket → ℕ → Option (Next × Change)
digit_byte top byte = if is_between byte 48 57 then Some (Digit, Keep) else item_byte top byte

-- Whether a byte is a hexadecimal digit in lower case.
abbrev pub is_lower : ℕ → Bool
is_lower byte = is_between byte 48 57 || is_between byte 97 102

-- What follows the first digit of a byte in hexadecimal, or the closing quote.
abbrev pub hex_byte_begins : ℕ → Option Next
hex_byte_begins byte = if byte == 34 then Some After else when (is_lower byte) HexSecond

-- What follows a byte, and what it does to the open brackets, of which `top` is the innermost one;
-- none if no text goes on with it.
abbrev pub after_byte : Next → Option Bracket → ℕ → Option (Next × Change)
after_byte Rows top byte = opened Rows byte 91 FirstValue Square
after_byte FirstValue top byte = first_value_byte top byte
after_byte Value top byte = value_byte Value byte
after_byte FirstName top byte = first_name_byte top byte
after_byte Name top byte = name_byte Name byte
after_byte ListBracket top byte = opened ListBracket byte 60 Name Child
after_byte FixedBracket top byte = opened FixedBracket byte 60 Size Child
after_byte StructBracket top byte = opened StructBracket byte 60 FirstName Fields
after_byte Size top byte = size_byte byte
after_byte SizeDigit top byte = size_digit_byte byte
after_byte SizeComma top byte = size_comma_byte byte
after_byte After top byte = item_byte top byte
after_byte Negative top byte = kept (when (is_between byte 49 57) Digit)
after_byte Digit top byte = digit_byte top byte
after_byte HexQuote top byte = kept (when (byte == 34) HexFirst)
after_byte HexFirst top byte = kept (hex_byte_begins byte)
after_byte HexSecond top byte = kept (when (is_lower byte) HexFirst)
after_byte (Word word) top byte = kept (after_word_byte word byte)
after_byte (TypeWord word) top byte = kept (after_name_byte word byte)
after_byte (Quoted within) top byte = kept (after_string_byte within byte)

-- Whether a text may end here, if no bracket is open.
abbrev pub is_last : Next → Bool
is_last After = true
is_last next = false

-- The innermost of the open brackets, which is the first one.
abbrev pub innermost : List Bracket → Option Bracket
innermost [] = None
innermost (bracket ∷ brackets) = Some bracket

-- The brackets that are open after a byte.
abbrev pub changed : Change → List Bracket → List Bracket
changed Keep brackets = brackets
changed (Open bracket) brackets = bracket ∷ brackets
changed Close [] = []
changed Close (bracket ∷ brackets) = brackets

-- Whether an option has a value that passes the test.
abbrev pub is_some_and : {A : Type 0} → (A → Bool) → Option A → Bool
is_some_and test None = false
is_some_and test (Some value) = test value

-- Whether a text may end here.
abbrev pub is_end : Next → List Bracket → Bool
is_end next [] = is_last next
is_end next (bracket ∷ brackets) = false

-- Whether the rest of a text, before which these brackets are open, goes on so to its end.
abbrev pub goes_on : Next → List Bracket → List ℕ → Bool
goes_on next brackets [] = is_end next brackets
goes_on next brackets (byte ∷ rest) =
    is_some_and (λ step. goes_on step.0 (changed step.1 brackets) rest)
    (after_byte next (innermost brackets) byte)

-- Whether a text is the notation of rows, of whichever type.
abbrev pub is_row_notation : List ℕ → Bool
is_row_notation text = goes_on Rows [] text

-- Whether a text is the notation of a type.
abbrev pub is_type_notation : List ℕ → Bool
is_type_notation text = goes_on Name [] text

-- The position of the first error in a text: the least byte with which no text goes on that can be
-- read, or the length of the text if it ends too soon.
pub record IsFirstError (reads : List ℕ → Bool) (text : List ℕ) (at : ℕ) : Type 0 where
  -- It is within the text or at its end.
  pub place : at ≤ length text
  -- The text cannot be read.
  pub wrong : reads text ≡ false
  -- The bytes before the position are the beginning of a text that can be read.
  pub begins : (more : List ℕ) × (reads (take at text ++ more) ≡ true)
  -- With the byte at the position they are not.
  pub ends : at < length text → (more : List ℕ) → reads (take (suc at) text ++ more) ≡ false

-- The text has its first error at this position, or if there is none, can be read.
abbrev pub HasFirstError : (List ℕ → Bool) → List ℕ → Option ℕ → Type 0
HasFirstError reads text None = reads text ≡ true
HasFirstError reads text (Some at) = IsFirstError reads text at
