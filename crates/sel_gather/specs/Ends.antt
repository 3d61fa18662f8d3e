-- The ends of concatenated lists.
use Rattle.std.specs.Prelude.{ℕ, ◌+◌, List, [], ◌∷◌, length}
use Rattle.sel_arrow.specs.Value.{Value}
use Rattle.sel_gather.specs.Children.{items_in}

-- The end of the list of each row, if the lists are appended to `start` values; a null row has no
-- values (Arrow columnar format: variable-size list layout).
abbrev pub item_ends : ℕ → List Value → List ℕ
item_ends start [] = []
item_ends start (row ∷ rows) =
    (start + length (items_in 0 row)) ∷ item_ends (start + length (items_in 0 row)) rows
