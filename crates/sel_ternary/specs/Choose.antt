-- If-then-else, entry by entry, with broadcast values.
use Rattle.std.specs.Prelude.{Bool, List, [], ◌∷◌, if◌then◌else◌}
pub use Rattle.sel_bits.specs.Choose.{choose}

-- If-then-else with a broadcast true value: entry i is x if entry i of `ms` is true, else entry i
-- of `fs` (when-then-otherwise with a scalar).
abbrev pub broadcast_true : {A : Type 0} → List Bool → A → List A → List A
broadcast_true [] x fs = []
broadcast_true (m ∷ ms) x [] = []
broadcast_true (m ∷ ms) x (f ∷ fs) = (if m then x else f) ∷ broadcast_true ms x fs

-- If-then-else with a broadcast false value: entry i is entry i of `ts` if entry i of `ms` is true,
-- else x (when-then-otherwise with a scalar).
abbrev pub broadcast_false : {A : Type 0} → List Bool → List A → A → List A
broadcast_false [] ts x = []
broadcast_false (m ∷ ms) [] x = []
broadcast_false (m ∷ ms) (t ∷ ts) x = (if m then t else x) ∷ broadcast_false ms ts x

-- If-then-else with two broadcast values: entry i is x if entry i of `ms` is true, else y
-- (when-then-otherwise with two scalars).
abbrev pub broadcast_both : {A : Type 0} → List Bool → A → A → List A
broadcast_both [] x y = []
broadcast_both (m ∷ ms) x y = (if m then x else y) ∷ broadcast_both ms x y
