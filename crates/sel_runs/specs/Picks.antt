-- The rows that row references refer to.
use Rattle.std.specs.Prelude.{ℕ, ◌<◌, ⊤, List, [], map, length, Option, Some, None, slice_index_or}

-- The entry that a row reference (list, position) refers to; d for none, or if there is no such
-- entry.
abbrev pub found : {A : Type 0} → A → List (List A) → Option (ℕ × ℕ) → A
found d xss None = d
found d xss (Some p) = slice_index_or (slice_index_or xss p.0 []) p.1 d

-- Entry k is d if row reference k is none, else entry i of list s for the row reference (s, i) (the
-- definition of a gather from several columns).
abbrev pub pick : {A : Type 0} → A → List (List A) → List (Option (ℕ × ℕ)) → List A
pick d xss ps = map (found d xss) ps

-- The row reference is none or refers to an entry that exists.
abbrev pub PickFits : {A : Type 0} → List (List A) → Option (ℕ × ℕ) → Type 0
PickFits xss None = ⊤
PickFits xss (Some p) = p.1 < length (slice_index_or xss p.0 [])
