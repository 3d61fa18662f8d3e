use Rattle.sel_ternary.proofs.Common.{◌≡◌, ◌∙◌, ◌∷◌, ◌+◌, ◌*◌, ◌/◌, ◌^◌, ◌<◌, [], ap, map, refl, arith, ℕ, Bool, ℤ, cond, w32, cast_signed, all_ones, bits, is_set}
use Rattle.std.proofs.Common.{◌%◌, bit_and, nat_eq}
use Rattle.sel_ternary.proofs.{Lanes.lane_from, Lanes.power_from}
use Rattle.sel_ternary.proofs.if_then_else.lanes.set_lanes_32.Goals as goal

abbrev lane : Bool → ℤ
lane b = cast_signed w32 (cond b 4294967295 0)

-- The lane of row j.
lane_at : (m at j : ℕ) → at + j < 32 → lane (nat_eq (bit_and m (2 ^ j * 2 ^ at % 2 ^ 32)) (2 ^ j * 2 ^ at % 2 ^ 32)) ≡ all_ones (is_set (m / 2 ^ at) j)
lane_at m at j lt = lane_from m at j (2 ^ j * 2 ^ at % 2 ^ 32) lane (power_from at j 32 lt) refl refl

pub returns : goal.returns
unfolding bits
returns c =
    let m = c.from.result in
    let at = c.args.at in
    (λ i. lane_at m at 0 (omega (arith, c.requires)) i ∷ lane_at m at 1 (omega (arith, c.requires)) i ∷ lane_at m at 2 (omega (arith, c.requires)) i ∷ lane_at m at 3 (omega (arith, c.requires)) i ∷ lane_at m at 4 (omega (arith, c.requires)) i ∷ lane_at m at 5 (omega (arith, c.requires)) i ∷ lane_at m at 6 (omega (arith, c.requires)) i ∷ lane_at m at 7 (omega (arith, c.requires)) i ∷ [])
    ∙ ap (λ m. map all_ones (bits 8 (m / 2 ^ at))) c.from.ensures
