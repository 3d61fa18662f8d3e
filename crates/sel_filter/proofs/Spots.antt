-- The positions of kept bits between the moves of the compress. After its moves by less than d, a
-- bit has moved down by the number of clear mask bits below it, modulo d.
use Rattle.sel_filter.proofs.Common.{◌≡◌, ℕ, suc, ◌+◌, ◌-◌, ◌*◌, ◌/◌, ◌%◌, ◌^◌, ◌<◌, ◌∙◌, ap, arith, ones_below}
use Rattle.std.proofs.lemmas.Nat.{div-add-mod', mod-pow-add}
use Rattle.std.proofs.Math.Nat.{mod-eq_of_lt}
use Rattle.sel_filter.proofs.Clears.{clears, clears_ones, clears_up}

-- The position of bit q after its moves by less than d.
abbrev pub spot : ℕ → ℕ → ℕ → ℕ
spot m d q = q - clears m q % d

-- A bit that has moved still has as many whole blocks of clear bits below it.
pub spot_block : (m d q : ℕ) → 0 < d → clears m (spot m d q) / d ≡ clears m q / d
spot_block m d q pos = grind (arith, clears_ones, clears_up)

-- The next move moves a bit down by 2 ^ i positions if its number of blocks is odd.
pub spot_next : (m i q : ℕ) → spot m (2 ^ suc i) q + clears m q / 2 ^ i % 2 * 2 ^ i ≡ spot m (2 ^ i) q
spot_next m i q =
    let e : suc i ≡ 1 + i = omega arith in
    let h : clears m q % 2 ^ suc i ≡ clears m q / 2 ^ i % 2 ^ 1 * 2 ^ i + clears m q % 2 ^ i = ap (λ j. clears m q % 2 ^ j) e ∙ mod-pow-add (clears m q) 1 i in
    omega (arith, h, div-add-mod' (clears m q) (2 ^ suc i), clears_ones m q)

-- After the last move a bit is at the number of set mask bits below it.
pub spot_last : (m q : ℕ) → q < 64 → spot m (2 ^ 6) q ≡ ones_below m q
spot_last m q lt = omega (arith, clears_ones m q, mod-eq_of_lt {n = clears m q} {m = 64} (omega (arith, clears_ones m q)))
