-- Runs of rows, and their row references.
use Rattle.std.specs.Prelude.{ℕ, List, [], ◌∷◌, ◌++◌, map, replicate, Option, Some, None}
use Rattle.std.specs.List.{range_with_len}
use Rattle.sel_runs.specs.declared.runs.Run.{Run}

-- The row references to n consecutive entries of list s, from `start` on.
abbrev pub picks_of : ℕ → ℕ → ℕ → List (Option (ℕ × ℕ))
picks_of s start n = map (λ i. Some (s, i)) (range_with_len start n)

-- The same for an optional list; n times none without one.
abbrev pub unrolled_from : Option ℕ → ℕ → ℕ → List (Option (ℕ × ℕ))
unrolled_from None start n = replicate n None
unrolled_from (Some s) start n = picks_of s start n

-- The row references of one run.
abbrev pub unrolled : Run → List (Option (ℕ × ℕ))
unrolled run = unrolled_from run.source run.start run.len

-- The row references of all runs, concatenated.
abbrev pub expand : List Run → List (Option (ℕ × ℕ))
expand [] = []
expand (run ∷ runs) = unrolled run ++ expand runs
