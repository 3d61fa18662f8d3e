-- The values with a validity give the rows.
use Rattle.std.proofs.Common.{◌≡◌, ℤ, Bool, true, List, [], ◌∷◌, length, map, Option, Some, None, refl, ap, sym}
use Rattle.sel_bits.specs.Bits.{Bits}
use Rattle.sel_arrow.specs.{Value.Value, Value.Number, Value.Truth, Value.is_valid, Value.validities, Masked.hidden, Masked.masked}
use Rattle.sel_bits.specs.Validity.{Covers}
use Rattle.sel_arrow.{specs.Masked.number_rows, specs.Masked.bool_rows, proofs.Rows.tells-mapped, proofs.Rows.length-number_rows, proofs.Rows.length-truth_rows}
use Rattle.sel_ffi.{proofs.Common.of_int8, specs.Outputs.Shows, specs.Outputs.numbers, specs.Outputs.bools}

module _ {A : Type 0} (f : A → Value) (valid : (x : A) → is_valid (f x) ≡ true) where
  unhidden : (xs : List A) → hidden (validities (map f xs)) (map f xs) ≡ map f xs
  unhidden [] = refl
  unhidden (x ∷ xs) = rw (valid x) (ap (λ rest. f x ∷ rest) (unhidden xs))

  shows-mapped : (xs : List A) (validity : Option Bits) (vs : List Value) → masked validity (map f xs) ≡ vs → Covers validity (length xs) → Shows (map f xs) vs
  shows-mapped xs None vs same covers = rw (sym same) (sym (unhidden xs))
  shows-mapped xs (Some validity) vs same covers =
      rw (sym same) (ap (λ bs. hidden bs (map f xs)) (sym (tells-mapped f valid of_int8 xs (Some validity) (λ same. Prim.cc) covers)))

pub shows-numbers : {T : Type 0} → (number : T → ℤ) (xs : List T) (validity : Option Bits) (vs : List Value) → number_rows number xs validity ≡ vs → Covers validity (length xs) → Shows (numbers number xs) vs
shows-numbers number = shows-mapped (λ x. Number (number x)) (λ x. refl)

pub shows-truths : (xs : List Bool) (validity : Option Bits) (vs : List Value) → bool_rows xs validity ≡ vs → Covers validity (length xs) → Shows (bools xs) vs
shows-truths = shows-mapped Truth (λ x. refl)

pub ruleset shows = (shows-numbers, shows-truths, length-number_rows, length-truth_rows)
