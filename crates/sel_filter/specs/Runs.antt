-- Runs of true entries in a list.
use Rattle.std.specs.Prelude.{ℕ, ◌+◌, Bool, true, false, List, [], ◌∷◌}

-- The number of runs of true entries that begin in the list; the flag is the entry before the list.
abbrev pub starts_after : Bool → List Bool → ℕ
starts_after before [] = 0
starts_after before (false ∷ bs) = starts_after false bs
starts_after true (true ∷ bs) = starts_after true bs
starts_after false (true ∷ bs) = 1 + starts_after true bs

-- The number of runs of true entries.
abbrev pub run_starts : List Bool → ℕ
run_starts bs = starts_after false bs
