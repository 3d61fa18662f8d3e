-- If-then-else as row references, for its internal steps.
use Rattle.std.specs.Prelude.{ℕ, ◌+◌, Bool, List, [], ◌∷◌, Option, Some, if◌then◌else◌}

-- The row that position i takes: i of a column, 0 of a scalar.
abbrev pub place_on : Bool → ℕ → ℕ
place_on column i = if column then i else 0

-- The row reference that a bit gives: into the first column or the second.
abbrev pub bit_pick : Bool → Bool → Bool → ℕ → Option (ℕ × ℕ)
bit_pick true_column false_column bit i =
    Some (if bit then (0, place_on true_column i) else (1, place_on false_column i))

-- The row references of an if-then-else, from position i on.
abbrev pub chosen_picks : Bool → Bool → ℕ → List Bool → List (Option (ℕ × ℕ))
chosen_picks true_column false_column i [] = []
chosen_picks true_column false_column i (bit ∷ bits) =
    bit_pick true_column false_column bit i ∷ chosen_picks true_column false_column (i + 1) bits
