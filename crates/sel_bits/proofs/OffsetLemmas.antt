-- Offsets that break no rule.
use Rattle.std.proofs.lemmas.Grind.{elements, common_steps}
use Rattle.std.proofs.Common.{◌≡◌, ℕ, zero, suc, ◌+◌, ◌≤◌, ◌<◌, ℤ, pos, Bool, false, ◌||◌, List, [], ◌∷◌, length, take, drop, map, None, refl, ap, sym, ◌∙◌, arith, get_or}
use Rattle.std.proofs.lemmas.List.{length-map, get_or-map, take-map, drop-map}
use Rattle.sel_bits.specs.Signs.{is_negative, is_below, magnitude}
use Rattle.sel_bits.specs.Offsets.{magnitudes, has_negative, has_fall, falls_after, IsOffsets, IsRising, offsets_fault}

not_less : (a b : ℤ) → is_negative a ≡ false → is_negative b ≡ false → is_below b a ≡ false → magnitude a ≤ magnitude b
not_less a b p q h = grind arith

or_parts : (a b : Bool) → (a || b) ≡ false → (a ≡ false) × (b ≡ false)
or_parts a b h = grind arith

neg_parts : {T : Type 0} (number : T → ℤ) → (x : T) (xs : List T) → has_negative number (x ∷ xs) ≡ false → (is_negative (number x) ≡ false) × (has_negative number xs ≡ false)
neg_parts number x xs h = or_parts (is_negative (number x)) (has_negative number xs) h

fall_parts : {T : Type 0} (number : T → ℤ) → (x y : T) (xs : List T) → has_fall number (x ∷ (y ∷ xs)) ≡ false → (is_below (number y) (number x) ≡ false) × (has_fall number (y ∷ xs) ≡ false)
fall_parts number x y xs h = or_parts (is_below (number y) (number x)) (falls_after number y xs) h

pub positive : {T : Type 0} (number : T → ℤ) → (xs : List T) → has_negative number xs ≡ false → map number xs ≡ map pos (magnitudes number xs)
positive number [] h = refl
positive number (x ∷ xs) h = grind (arith, (positive number xs (neg_parts number x xs h).1))

climbs : {T : Type 0} (number : T → ℤ) → (xs : List T) → has_negative number xs ≡ false → has_fall number xs ≡ false → (j k : ℕ) → j ≤ k → k < length xs → get_or (magnitudes number xs) j 0 ≤ get_or (magnitudes number xs) k 0
climbs number (x ∷ (y ∷ ys)) neg fall zero (suc k) le h =
    let here = neg_parts number x (y ∷ ys) neg in
    let falls = fall_parts number x y ys fall in
    let step : magnitude (number x) ≤ magnitude (number y) = not_less (number x) (number y) here.0 (neg_parts number y ys here.1).0 falls.0 in
    let rest : magnitude (number y) ≤ get_or (magnitudes number (y ∷ ys)) k 0 = climbs number (y ∷ ys) here.1 falls.1 0 k (omega arith) (omega arith) in
    omega arith
climbs number (x ∷ (y ∷ ys)) neg fall (suc j) (suc k) le h =
    grind (arith, (climbs number (y ∷ ys) (neg_parts number x (y ∷ ys) neg).1 (fall_parts number x y ys fall).1 j k (omega arith) (omega arith)))
climbs number xs neg fall j k le h = grind arith

-- Numbers that break no rule are offsets.
pub accepted : {T : Type 0} (number : T → ℤ) → (xs : List T) → offsets_fault number xs ≡ None → IsOffsets number xs
accepted number xs h = grind (arith, common_steps, positive, climbs)

pub accepted-numbers : {T : Type 0} (number : T → ℤ) → (xs : List T) → offsets_fault number xs ≡ None → map number xs ≡ map pos (magnitudes number xs)
accepted-numbers number xs h = (accepted number xs h).positive

pub ruleset accepting = (accepted, accepted-numbers)

-- An element of values that represent `ns`.
pub shown_at : {T : Type 0} (number : T → ℤ) → (xs : List T) (ns : List ℕ) (i : ℕ) (x : T) → map number xs ≡ map pos ns → i < length ns → x ≡ get_or xs i x → number x ≡ pos (get_or ns i 0)
shown_at number xs ns i x e h is =
    let same : length xs ≡ length ns = simp length-map at (ap length e) in
    let here : get_or (map number xs) i (number x) ≡ number (get_or xs i x) = get_or-map number xs i x (number x) (omega arith) in
    let there : get_or (map pos ns) i (number x) ≡ pos (get_or ns i 0) = get_or-map pos ns i 0 (number x) (omega arith) in
    cc

-- A part of a non-decreasing list is non-decreasing.
pub rising_part : (ns : List ℕ) (off len : ℕ) → IsRising ns → off + len < length ns → IsRising (take (len + 1) (drop off ns))
rising_part ns off len rises h = grind (arith, elements)

-- The numbers of a part of the values are a part of the numbers.
pub part_shown : {T : Type 0} (number : T → ℤ) → (xs : List T) (off len : ℕ) → magnitudes number (take len (drop off xs)) ≡ take len (drop off (magnitudes number xs))
part_shown number xs off len = rw (drop-map, take-map) refl

pub part_accepted : {T : Type 0} (number : T → ℤ) → (xs : List T) (off len : ℕ) → IsOffsets number xs → off + len < length (magnitudes number xs) → IsOffsets number (take (len + 1) (drop off xs))
part_accepted number xs off len ok h = record {
  positive =
      let shorter : map number (take (len + 1) (drop off xs)) ≡ take (len + 1) (drop off (map number xs)) = rw (drop-map, take-map) refl in
      let part : take (len + 1) (drop off (map pos (magnitudes number xs))) ≡ map pos (take (len + 1) (drop off (magnitudes number xs))) = rw (drop-map, take-map) refl in
      shorter ∙ ap (λ ns. take (len + 1) (drop off ns)) ok.positive ∙ part ∙ ap (map pos) (sym (part_shown number xs off (len + 1)));
  rising = rw (part_shown number xs off (len + 1)) (rising_part (magnitudes number xs) off len ok.rising h);
}
