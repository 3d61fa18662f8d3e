-- If-then-else of two views by vector operations.
use Rattle.sel_ternary.proofs.Common.{◌≡◌, ◌∙◌, ◌+◌, ◌/◌, ◌^◌, ◌<◌, ◌==◌, ℕ, refl, ap, arith, List, [], ◌∷◌, length, map, get_or, Bool, true, false}
use Rattle.sel_ternary.proofs.Common.{if◌then◌else◌, w32, cast_unsigned, top, bits, is_set, choose, all_ones, View}
use Rattle.sel_ternary.specs.Lanes.{pair_fields}
use Rattle.std.specs.{Prelude.◌%◌, Simd.Lanes.sel_l}
use Rattle.sel_bits.proofs.Shifts.{bit_at_mod, bit_at_shr}

-- The lanes that choose between two views, and between two others.
abbrev pub pair : Bool → Bool → List Bool
pair x y = x ∷ x ∷ x ∷ x ∷ y ∷ y ∷ y ∷ y ∷ []

pub chosen_fields : (x y : Bool) (a b c d : View) → sel_l (map (top 31) (map (cast_unsigned w32) (map all_ones (pair x y)))) (pair_fields a b) (pair_fields c d) ≡ pair_fields (if x then a else c) (if y then b else d)
chosen_fields true true a b c d = refl
chosen_fields true false a b c d = refl
chosen_fields false true a b c d = refl
chosen_fields false false a b c d = refl

pub pair_chosen : (m : ℕ) (ts fs : List View) (d : View) → length ts ≡ 2 → length fs ≡ 2
    → (if is_set m 0 then get_or ts 0 d else get_or fs 0 d) ∷ (if is_set m 1 then get_or ts 1 d else get_or fs 1 d) ∷ [] ≡ choose (bits 2 m) ts fs
unfolding bits
pair_chosen m (a ∷ b ∷ []) (f ∷ g ∷ []) d p q = refl
pair_chosen m _ _ d p q = absurd (omega (arith, p, q))

-- A bit of the two bits of a word from position `at` on.
pub pair_bit : (mask at i : ℕ) → i < 2 → is_set (mask / 2 ^ at % 4) i ≡ is_set mask (at + i)
pair_bit mask at i lt =
    let place : i + at ≡ at + i = omega arith in
    ap (λ b. b == 1) (bit_at_mod (mask / 2 ^ at) 2 i lt ∙ bit_at_shr mask at i) ∙ ap (is_set mask) place
