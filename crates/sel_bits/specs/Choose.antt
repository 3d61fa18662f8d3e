-- If-then-else on lists, entry by entry.
use Rattle.std.specs.Prelude.{Bool, List, [], ◌∷◌, if◌then◌else◌}

-- Entry i is from ts if entry i of ms is true, else from fs, up to the end of the shortest list
-- (when-then-otherwise).
abbrev pub choose : {A : Type 0} → List Bool → List A → List A → List A
choose [] ts fs = []
choose (m ∷ ms) [] fs = []
choose (m ∷ ms) (t ∷ ts) [] = []
choose (m ∷ ms) (t ∷ ts) (f ∷ fs) = (if m then t else f) ∷ choose ms ts fs
