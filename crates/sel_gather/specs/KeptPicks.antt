-- Row references under a list of bits.
use Rattle.std.specs.Prelude.{◌≡◌, ◌<◌, ◌+◌, ℕ, Bool, false, List, Option, Some, None}
use Rattle.std.specs.Prelude.{slice_index_or, if◌then◌else◌}

-- The row reference, or none if the bit at its position is false.
abbrev pub kept_by : List Bool → Option (ℕ × ℕ) → Option (ℕ × ℕ)
kept_by bits None = None
kept_by bits (Some p) = if slice_index_or bits p.1 false then Some p else None

-- The `count` bits from position `start` on are equal.
abbrev pub AreEqualBits : List Bool → ℕ → ℕ → Type 0
AreEqualBits bits start count =
    (i : ℕ) → i < count → slice_index_or bits (start + i) false ≡ slice_index_or bits start false
