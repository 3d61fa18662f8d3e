-- Columns as words.
use Rattle.std.specs.Prelude.{ℕ, ◌==◌, List, [], ◌∷◌, map, Option, None, Some, if◌then◌else◌, codes}
use Rattle.std.specs.Prelude.{bytes_eq, option_map}
use Rattle.std.specs.List.{slice_split, join_with_byte}
use Rattle.std.specs.Fmt.{signed_decimal}
use Rattle.sel_arrow.specs.Value.{Value, Null, Number, Bytes}

-- The items, if none is missing.
abbrev pub all_some : {X : Type 0} → List (Option X) → Option (List X)
all_some [] = Some []
all_some (None ∷ xs) = None
all_some (Some x ∷ xs) = option_map (λ ys. x ∷ ys) (all_some xs)

-- The row that a word represents: null for `n`, else a value.
abbrev pub row_of : (List ℕ → Option Value) → List ℕ → Option Value
row_of value_of word = if bytes_eq word (codes "n") then Some Null else value_of word

-- The column that a word represents: no rows for `-`, else rows separated by commas.
abbrev pub column_of : (List ℕ → Option Value) → List ℕ → Option (List Value)
column_of value_of word =
    if bytes_eq word (codes "-") then Some []
    else all_some (map (row_of value_of) (slice_split (λ b. b == 44) word))

-- A row, printed: `n` for null, an integer in decimal, `=` and a string. Printed columns have no
-- other values, for which nothing is printed.
abbrev pub row_text : Value → List ℕ
row_text Null = codes "n"
row_text (Number z) = signed_decimal z
row_text (Bytes text) = 61 ∷ text
row_text _ = []

-- A column, printed: `-` for no rows, else the rows separated by commas.
unfoldable pub column_text : List Value → List ℕ
column_text [] = codes "-"
column_text (row ∷ rows) = join_with_byte 44 (map row_text (row ∷ rows))
