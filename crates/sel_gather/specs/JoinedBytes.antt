-- Binary rows that are concatenated.
use Rattle.std.specs.Prelude.{ℕ, ◌+◌, ⊤, List, [], ◌∷◌}
use Rattle.sel_arrow.specs.Value.{Value, Null, Bytes}
use Rattle.sel_gather.specs.Need.{byte_count}

-- The end of each row, if the rows are appended to `start` bytes.
abbrev pub ends_from : ℕ → List Value → List ℕ
ends_from start [] = []
ends_from start (row ∷ rows) = (start + byte_count row) ∷ ends_from (start + byte_count row) rows

-- The row is null or bytes.
abbrev pub IsBytesRow : Value → Type 0
IsBytesRow Null = ⊤
IsBytesRow (Bytes bytes) = ⊤
IsBytesRow _ = ⊥
