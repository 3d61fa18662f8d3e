-- The output for `pext V M`.
use Rattle.std.specs.Prelude.{ℕ, Bool, ◌&&◌, ◌||◌, false, List, [], ◌∷◌, length, Option, None, Some}
use Rattle.std.specs.Prelude.{if◌then◌else◌, nat_le, nat_lt}
use Rattle.std.specs.Fmt.{digits}
use Rattle.std.specs.List.{list_all}
use Rattle.std.specs.Str.Parse.{digits_value}
use Rattle.sel_kernels.specs.Compress.{compress}
use Rattle.sel_lines.specs.Words.{if_both}

-- The maximum number of hexadecimal digits of a 64-bit word.
abbrev pub most_digits : ℕ
most_digits = 16

-- Whether a byte is from `0` to `9` or from `a` to `f`.
abbrev pub is_hex_digit : ℕ → Bool
is_hex_digit b = (nat_le 48 b && nat_le b 57) || (nat_le 97 b && nat_le b 102)

-- Whether a word has 1 to 16 bytes, each a hexadecimal digit in lower case.
abbrev pub is_hex_word : List ℕ → Bool
is_hex_word word =
    nat_lt 0 (length word) && nat_le (length word) most_digits && list_all is_hex_digit word

-- The 64-bit word with these hexadecimal digits.
unfoldable pub word_of_hex : List ℕ → Option ℕ
word_of_hex word = if is_hex_word word then Some (digits_value 16 word) else None

-- A word in lower-case hexadecimal, without leading zeros.
abbrev pub word_hex : ℕ → List ℕ
word_hex n = digits 16 false n

-- The bits of a word under a mask, printed.
abbrev pub pext_answer : ℕ → ℕ → Option (List ℕ)
pext_answer v m = Some (word_hex (compress v m))

-- The output for the arguments of `pext`.
abbrev pub pext_words : List (List ℕ) → Option (List ℕ)
pext_words (v ∷ m ∷ []) = if_both pext_answer (word_of_hex v) (word_of_hex m)
pext_words _ = None
