-- Offsets as integers, and the rules for them.
use Rattle.std.specs.Prelude.{◌≡◌, ℕ, ◌<◌, ◌≤◌, ℤ, pos, Bool, true, false, ◌||◌, List, [], ◌∷◌, map}
use Rattle.std.specs.Prelude.{length, Option, slice_index}
use Rattle.std.specs.List.{list_any}
use Rattle.sel_bits.specs.declared.faults.Malformed.{Malformed}
use Rattle.sel_bits.specs.declared.faults.Malformed.TheVariants.{OffsetCount, OffsetNegative}
use Rattle.sel_bits.specs.declared.faults.Malformed.TheVariants.{OffsetOrder}
use Rattle.sel_bits.specs.Faults.{first_broken}
use Rattle.sel_bits.specs.Signs.{is_negative, is_below, magnitude}

-- The absolute values of the numbers that values represent.
abbrev pub magnitudes : {T : Type 0} → (T → ℤ) → List T → List ℕ
magnitudes number xs = map (λ x. magnitude (number x)) xs

-- Whether some number is negative.
abbrev pub has_negative : {T : Type 0} → (T → ℤ) → List T → Bool
has_negative number xs = list_any (λ x. is_negative (number x)) xs

-- Whether some number is less than the one before it; `x` comes before the first.
abbrev pub falls_after : {T : Type 0} → (T → ℤ) → T → List T → Bool
falls_after number x [] = false
falls_after number x (y ∷ ys) = is_below (number y) (number x) || falls_after number y ys

-- Whether some number is less than the one before it.
abbrev pub has_fall : {T : Type 0} → (T → ℤ) → List T → Bool
has_fall number [] = false
has_fall number (x ∷ xs) = falls_after number x xs

-- Whether the list is empty.
abbrev pub is_empty : {A : Type 0} → List A → Bool
is_empty [] = true
is_empty (x ∷ xs) = false

-- The first broken rule of offsets (Arrow columnar format: offsets buffers).
abbrev pub offsets_fault : {T : Type 0} → (T → ℤ) → List T → Option Malformed
offsets_fault number xs =
    first_broken ((OffsetCount, is_empty xs) ∷ (OffsetNegative, has_negative number xs)
    ∷ (OffsetOrder, has_fall number xs) ∷ [])

-- There is at least one number, and none is less than the one before it (Arrow columnar format:
-- offsets buffers).
pub record IsRising (ns : List ℕ) : Type 0 where
  pub some : 1 ≤ length ns
  pub rising : (j k : ℕ) → j ≤ k → k < length ns → slice_index ns j ≤ slice_index ns k

-- The values represent offsets: at least one number, none negative, none less than the one before
-- it (Arrow columnar format: offsets buffers).
pub record IsOffsets {T : Type 0} (number : T → ℤ) (xs : List T) : Type 0 where
  pub positive : map number xs ≡ map pos (magnitudes number xs)
  pub rising : IsRising (magnitudes number xs)
