-- The position of an index in a list; a negative index counts from the end.
use Rattle.std.specs.Prelude.{ℕ, ◌+◌, ◌-◌, ℤ, pos, negsuc, Option, Some, None, nat_lt}
use Rattle.std.specs.Prelude.{if◌then◌else◌}

-- i if 0 ≤ i < n, n + i if -n ≤ i < 0, else none (polars: indices of list element access).
abbrev pub place : ℤ → ℕ → Option ℕ
place (pos i) n = if nat_lt i n then Some i else None
place (negsuc i) n = if nat_lt i n then Some (n - (i + 1)) else None
