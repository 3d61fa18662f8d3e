-- Fixed-size lists as words.
use Rattle.std.specs.Prelude.{ℕ, ◌==◌, Bool, true, false, List, length, Option, None, Some}
use Rattle.std.specs.Prelude.{if◌then◌else◌, nat_le, option_and_then}
use Rattle.sel_arrow.specs.Value.{Value, Null, Items, listed}
use Rattle.sel_lines.specs.Lists.{list_of_word, rows_of_bars}
use Rattle.sel_lines.specs.Numbers.{size_of}

-- The largest list size.
abbrev pub widest : ℕ
widest = 16

-- The list size that a word represents; none if it is too large.
abbrev pub parsed_width : List ℕ → Option ℕ
parsed_width word =
    option_and_then (λ width. if nat_le width widest then Some width else None) (size_of word)

-- Whether a row is null or a list of `width` items.
abbrev pub is_block : ℕ → Value → Bool
is_block width Null = true
is_block width (Items items) = length (listed items) == width
is_block width row = false

-- The row of fixed-size lists that a word represents.
abbrev pub block_of : ℕ → List ℕ → Option Value
block_of width word =
    option_and_then (λ row. if is_block width row then Some row else None) (list_of_word word)

-- The rows of fixed-size lists that a word represents.
abbrev pub blocks_of : ℕ → List ℕ → Option (List Value)
blocks_of width word = rows_of_bars (block_of width) word
