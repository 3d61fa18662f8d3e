-- The lanes of vectors, for internal steps of this crate.
use Rattle.std.specs.Prelude.{ℕ, ℤ, pos, negsuc, Bool, true, false, List, [], ◌∷◌}
use Rattle.sel_arrow.specs.declared.view.View.{View}

-- The lane of a mask: all bits are set, or none is.
abbrev pub all_ones : Bool → ℤ
all_ones true = negsuc 0
all_ones false = pos 0

-- The fields of two views, each a lane.
abbrev pub pair_fields : View → View → List ℕ
pair_fields one other =
    one.length ∷ one.prefix ∷ one.buffer_idx ∷ one.offset ∷
    other.length ∷ other.prefix ∷ other.buffer_idx ∷ other.offset ∷ []
