-- The width of a row, for the internal steps of a flatten.
use Rattle.std.specs.Prelude.{ℕ, ◌+◌, List, [], ◌∷◌}

-- The number of entries of one row.
abbrev pub row_width : List ℕ → ℕ
row_width [] = 0
row_width (w ∷ ws) = w + row_width ws
