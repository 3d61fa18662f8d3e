-- Elements of a list at optional positions.
use Rattle.std.specs.Prelude.{ℕ, List, Option, Some, None, slice_index_or}
use Rattle.std.specs.Option.{option_map}
use Rattle.sel_arrow.specs.Value.{Value, Null}

-- The element at a position; null if the position is none or out of bounds.
abbrev pub element_at : List Value → Option ℕ → Value
element_at values None = Null
element_at values (Some i) = slice_index_or values i Null

-- The row reference of a row of a single child; none if there is no row.
abbrev pub child_pick : Option ℕ → Option (ℕ × ℕ)
child_pick place = option_map (λ row. (0, row)) place
