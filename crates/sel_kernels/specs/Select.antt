-- The entries that a mask selects.
use Rattle.std.specs.Prelude.{ℕ, ◌+◌, Bool, true, false, List, [], ◌∷◌, map}
use Rattle.sel_arrow.specs.Value.{Value, Truth}
pub use Rattle.sel_filter.specs.Select.{select}

-- Whether a mask row is valid and true; null counts as false.
abbrev pub is_true : Value → Bool
is_true (Truth b) = b
is_true _ = false

-- The effective mask: for each row of a mask column, whether it is valid and true.
abbrev pub effective_mask : List Value → List Bool
effective_mask rows = map is_true rows

-- The positions of the true entries, ascending, if the first entry has position n.
abbrev pub kept_from : ℕ → List Bool → List ℕ
kept_from n [] = []
kept_from n (true ∷ ms) = n ∷ kept_from (n + 1) ms
kept_from n (false ∷ ms) = kept_from (n + 1) ms

-- The positions of the true entries, ascending.
abbrev pub kept : List Bool → List ℕ
kept ms = kept_from 0 ms
