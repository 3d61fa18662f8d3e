-- Counts of the set bits below a position.
use Rattle.std.proofs.Common.{◌≡◌, ℕ, suc, ◌+◌, refl}
use Rattle.std.specs.Int.{bit_at}
use Rattle.sel_bits.specs.Words.{ones_below}

pub ones_suc : (m q : ℕ) → ones_below m (suc q) ≡ ones_below m q + bit_at m q
unfolding ones_below
ones_suc m q = refl

pub ones_zero : (m : ℕ) → ones_below m 0 ≡ 0
unfolding ones_below
ones_zero m = refl
