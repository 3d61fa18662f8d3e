-- Signs and order of integers.
use Rattle.std.specs.Prelude.{ℕ, ◌+◌, ℤ, pos, negsuc, Bool, true, false}
use lib.Signed.{lt_z}

-- Whether the number is negative.
abbrev pub is_negative : ℤ → Bool
is_negative (pos n) = false
is_negative (negsuc n) = true

-- The absolute value of the number.
abbrev pub magnitude : ℤ → ℕ
magnitude (pos n) = n
magnitude (negsuc n) = n + 1

-- Whether the first number is less than the second.
abbrev pub is_below : ℤ → ℤ → Bool
is_below a b = lt_z a b
