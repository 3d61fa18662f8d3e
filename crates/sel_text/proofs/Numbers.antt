-- Numbers as they are parsed.
use Rattle.std.proofs.Common.{◌≡◌, ℕ, ℤ, pos, negsuc, suc, ◌^◌, ◌<◌, true, List, ◌++◌, ap, sym, ◌∙◌, ◌∷◌, drop, arith, ◌-ℤ◌, FitsSigned}
use Rattle.sel_text.proofs.Common.{nat_tests, common_steps, decimal, signed_decimal, w128, Shape, NoDigit, fits_number}
use mir.Val.{to_z, of_z}
use Rattle.sel_text.proofs.{Decoded.no_minus, Ends.numeral_is, Told.small_number, Told.small_below}

-- A negative number that fits a type has one bit less.
pub below_small : (s : Shape) (n : ℕ) → fits_number s (negsuc n) ≡ true → suc n < 2 ^ 128
below_small s n fit = let small = small_below s n fit in omega (arith, small)

pub below_signed : (s : Shape) (n size : ℕ) → fits_number s (negsuc n) ≡ true → size ≡ suc n → (FitsSigned w128 (pos 0 -ℤ pos size)) × (pos 0 -ℤ pos size ≡ negsuc n)
below_signed s n size fit is = grind (arith, common_steps, small_below)

-- The negative number as it is stored.
pub below_kept : (s : Shape) (n size : ℕ) (z : ℤ) → fits_number s (negsuc n) ≡ true → size ≡ suc n → z ≡ pos 0 -ℤ pos size → to_z w128 (of_z w128 z) ≡ negsuc n
below_kept s n size z fit is taken = grind (arith, common_steps, below_signed)

-- A negative number follows a minus sign.
pub minus_told : (R : ℤ → List ℕ → Type 0) (s : Shape) (text numeral : List ℕ) → text ≡ 45 ∷ numeral → ((n : ℕ) (more : List ℕ) → fits_number s (negsuc n) ≡ true → NoDigit more → numeral ≡ decimal (suc n) ++ more → R (negsuc n) more) →
    (z : ℤ) (more : List ℕ) → fits_number s z ≡ true → NoDigit more → text ≡ signed_decimal z ++ more → R z more
minus_told R s text numeral minus read (pos n) more fit end is = grind (arith, nat_tests, numeral_is, small_number, no_minus)
minus_told R s text numeral minus read (negsuc n) more fit end is = read n more fit end (ap (drop 1) (sym minus ∙ is))
