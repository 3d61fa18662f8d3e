-- Ranges of integers.
use Rattle.std.specs.Prelude.{ℤ, ◌≤ℤ◌, ◌<ℤ◌, ◌⊎◌}

-- The number is at least `least` and at most `greatest`.
pub record IsWithin (least greatest number : ℤ) : Type 0 where
  pub low : least ≤ℤ number
  pub high : number ≤ℤ greatest

-- The number is less than the first bound or greater than the second.
abbrev pub IsOutside : ℤ → ℤ → ℤ → Type 0
IsOutside least greatest number = (number <ℤ least) ⊎ (greatest <ℤ number)
