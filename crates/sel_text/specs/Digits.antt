-- The end of a number in row text.
use Rattle.std.specs.Prelude.{ℕ, ◌≤◌, ⊤, List, [], ◌∷◌}
use Rattle.std.specs.Char.{digit_value}

-- The text does not begin with a digit.
abbrev pub NoDigit : List ℕ → Type 0
NoDigit [] = ⊤
NoDigit (c ∷ rest) = 10 ≤ digit_value c
