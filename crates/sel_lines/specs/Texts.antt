-- Strings as words.
use Rattle.std.specs.Prelude.{ℕ, ◌==◌, List, [], ◌∷◌, Option, None, Some, if◌then◌else◌}
use Rattle.sel_arrow.specs.Value.{Value, Bytes}

-- A word as a row of a string column: `=` and the characters.
abbrev pub string_value : List ℕ → Option Value
string_value [] = None
string_value (c ∷ text) = if c == 61 then Some (Bytes text) else None
