-- Integers and booleans as words.
use Rattle.std.specs.Prelude.{ℕ, ◌^◌, ◌&&◌, ℤ, pos, List, Option, None, Some, true, false}
use Rattle.std.specs.Prelude.{if◌then◌else◌, codes, nat_lt, bytes_eq, option_map}
use Rattle.std.specs.Str.Parse.{digits_value, signed_digits_value}
use Rattle.std.specs.Fmt.{decimal, signed_decimal}
use Rattle.std.specs.Int.Signed.{mag}
use Rattle.sel_arrow.specs.Value.{Value, Number, Truth}

-- The signed 64-bit integer that a word represents; none unless the word is the integer as it is
-- printed.
unfoldable pub integer_of : List ℕ → Option ℤ
integer_of word = let z = signed_digits_value 10 word in
    if bytes_eq (signed_decimal z) word && nat_lt (mag z) (2 ^ 63) then Some z else None

-- The unsigned integer of `bits` bits that a word represents; none unless the word is the integer
-- as it is printed.
unfoldable pub unsigned_of : ℕ → List ℕ → Option ℕ
unsigned_of bits word = let n = digits_value 10 word in
    if bytes_eq (decimal n) word && nat_lt n (2 ^ bits) then Some n else None

-- The unsigned 32-bit integer that a word represents.
abbrev pub natural_of : List ℕ → Option ℕ
natural_of word = unsigned_of 32 word

-- The unsigned 64-bit integer that a word represents.
abbrev pub size_of : List ℕ → Option ℕ
size_of word = unsigned_of 64 word

-- A word as a row of a column of signed 64-bit integers.
abbrev pub number_of : List ℕ → Option Value
number_of word = option_map Number (integer_of word)

-- A word as a row of a column of indices, which are unsigned 32-bit integers.
abbrev pub index_of : List ℕ → Option Value
index_of word = option_map (λ n. Number (pos n)) (natural_of word)

-- A word as a row of a mask: `t` or `f`.
unfoldable pub truth_of : List ℕ → Option Value
truth_of word =
    if bytes_eq word (codes "t") then Some (Truth true)
    else if bytes_eq word (codes "f") then Some (Truth false)
    else None
