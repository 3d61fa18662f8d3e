-- Lists as words.
use Rattle.std.specs.Prelude.{ℕ, ◌==◌, List, [], map, Option, Some, if◌then◌else◌, codes, bytes_eq}
use Rattle.std.specs.Prelude.{option_map}
use Rattle.std.specs.List.{slice_split}
use Rattle.sel_arrow.specs.Nested.{list_of}
use Rattle.sel_arrow.specs.Value.{Value, Null}
use Rattle.sel_lines.specs.Columns.{all_some, column_of}
use Rattle.sel_lines.specs.Numbers.{number_of}

-- The list that a word represents: null for `_`, else a column of its items.
abbrev pub list_of_word : List ℕ → Option Value
list_of_word word =
    if bytes_eq word (codes "_") then Some Null else option_map list_of (column_of number_of word)

-- The rows that a word represents: no rows for `.`, else rows separated by `|`.
abbrev pub rows_of_bars : (List ℕ → Option Value) → List ℕ → Option (List Value)
rows_of_bars row_of word =
    if bytes_eq word (codes ".") then Some []
    else all_some (map row_of (slice_split (λ b. b == 124) word))

-- The lists that a word represents.
abbrev pub lists_of : List ℕ → Option (List Value)
lists_of word = rows_of_bars list_of_word word
