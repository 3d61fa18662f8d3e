-- Row references, and takes by indices.
use Rattle.std.specs.Prelude.{ℕ, pos, negsuc, Bool, true, false, List, [], ◌∷◌, map, Option, Some}
use Rattle.std.specs.Prelude.{None, nat_lt}
use Rattle.std.specs.List.{list_all}
use Rattle.sel_arrow.specs.Value.{Value, Null, Number}
pub use Rattle.sel_runs.specs.Picks.{found, pick}

-- The row reference of an index into a single list; none for a null or negative index.
abbrev pub pick_of : Value → Option (ℕ × ℕ)
pick_of (Number (pos i)) = Some (0, i)
pick_of _ = None

-- The rows at the indices; null for a null index.
abbrev pub take_rows : List Value → List Value → List Value
take_rows rows indices = pick Null (rows ∷ []) (map pick_of indices)

-- Whether an index is null or refers to one of n rows.
abbrev pub is_within : ℕ → Value → Bool
is_within n (Number (pos i)) = nat_lt i n
is_within n (Number (negsuc i)) = false
is_within n _ = true

-- Whether each index is null or refers to one of n rows.
abbrev pub all_within : ℕ → List Value → Bool
all_within n indices = list_all (is_within n) indices

-- The row reference of a position in a single list.
abbrev pub place_pick : ℕ → Option (ℕ × ℕ)
place_pick place = Some (0, place)

-- Whether each position is less than n.
abbrev pub all_below : ℕ → List ℕ → Bool
all_below n places = list_all (λ place. nat_lt place n) places
