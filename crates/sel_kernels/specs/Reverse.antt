-- The positions of a list, last to first.
use Rattle.std.specs.Prelude.{ℕ, zero, suc, List, [], ◌∷◌}

-- The positions of n entries, last to first.
abbrev pub last_to_first : ℕ → List ℕ
last_to_first zero = []
last_to_first (suc n) = n ∷ last_to_first n
