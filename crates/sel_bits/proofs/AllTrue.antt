-- The number of leading true bits is the length exactly if the number of true bits is; that of leading false bits is, exactly if no bit is true.
use Rattle.std.proofs.Common.{◌≡◌, ◌+◌, ◌↔◌, arith, refl, List, [], ◌∷◌, length, Bool, true, false, cond}
use Rattle.std.proofs.lemmas.List.Sums.{count_by-le-length, sum_by-cons}
use Rattle.sel_bits.specs.Bits.{count_true, leading_ones, leading_zeros}

count_cons : (b : Bool) (bs : List Bool) → count_true (b ∷ bs) ≡ cond b 1 0 + count_true bs
count_cons b bs = sum_by-cons (λ x. cond x 1 0) b bs

front_counts : (bits : List Bool) → leading_ones bits ≡ length bits → count_true bits ≡ length bits
front_counts (true ∷ bits) front = omega (arith, count_cons true bits, front_counts bits (omega (arith, front)))
front_counts bits front = cc

count_fronts : (bits : List Bool) → count_true bits ≡ length bits → leading_ones bits ≡ length bits
count_fronts (true ∷ bits) all = let rest = count_fronts bits (omega (arith, all, count_cons true bits)) in omega (arith, rest)
count_fronts bits all = grind (arith, count_by-le-length)

pub all_true : (bits : List Bool) → (leading_ones bits ≡ length bits) ↔ (count_true bits ≡ length bits)
all_true bits = (front_counts bits, count_fronts bits)

front_empty : (bits : List Bool) → leading_zeros bits ≡ length bits → count_true bits ≡ 0
front_empty (false ∷ bits) front = omega (arith, count_cons false bits, front_empty bits (omega (arith, front)))
front_empty bits front = cc

empty_front : (bits : List Bool) → count_true bits ≡ 0 → leading_zeros bits ≡ length bits
empty_front (false ∷ bits) none = let rest = empty_front bits (omega (arith, none, count_cons false bits)) in omega (arith, rest)
empty_front (true ∷ bits) none = absurd (omega (arith, none, count_cons true bits))
empty_front [] none = refl

pub all_false : (bits : List Bool) → (leading_zeros bits ≡ length bits) ↔ (count_true bits ≡ 0)
all_false bits = (front_empty bits, empty_front bits)
