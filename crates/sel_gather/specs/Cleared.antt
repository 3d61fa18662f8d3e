-- Row references to struct rows, as row references to rows of their fields.
use Rattle.std.specs.Prelude.{◌≡◌, ℕ, true, ⊤, List, Option, Some, None, if◌then◌else◌}
use Rattle.sel_arrow.specs.Value.{Value, Null, is_valid}
use Rattle.sel_runs.specs.Picks.{found}

-- The row reference, or none if its row is null (Arrow columnar format: a null row of a struct
-- hides those of its fields).
abbrev pub cleared : List (List Value) → Option (ℕ × ℕ) → Option (ℕ × ℕ)
cleared xss p = if is_valid (found Null xss p) then p else None

-- The row reference is none or refers to a row that is not null.
abbrev pub IsLive : List (List Value) → Option (ℕ × ℕ) → Type 0
IsLive xss None = ⊤
IsLive xss (Some p) = is_valid (found Null xss (Some p)) ≡ true
