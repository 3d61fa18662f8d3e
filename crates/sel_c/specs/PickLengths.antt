-- Bounds of row references, by the lengths of the columns.
use Rattle.std.specs.Prelude.{ℕ, ◌<◌, ⊤, List, Option, Some, None, slice_index_or}

-- The row reference is null or in bounds, for columns of these lengths.
abbrev pub HasRow : List ℕ → Option (ℕ × ℕ) → Type 0
HasRow lengths None = ⊤
HasRow lengths (Some p) = p.1 < slice_index_or lengths p.0 0
