use Rattle.sel_ternary.proofs.Common.{◌∙◌, ◌∷◌, [], ap, refl, Bool, ℤ, cond, w32, cast_signed, is_set, all_ones}
use Rattle.sel_ternary.proofs.Lanes.{lane_marked}
use Rattle.sel_ternary.proofs.if_then_else.view_lanes.set_pair.Goals as goal

abbrev lane : Bool → ℤ
lane b = cast_signed w32 (cond b 4294967295 0)

pub returns : goal.returns
returns c =
    let one = lane_marked c.from.result 0 lane refl refl ∙ ap (λ m. all_ones (is_set m 0)) c.from.ensures in
    let other = lane_marked c.from.result 1 lane refl refl ∙ ap (λ m. all_ones (is_set m 1)) c.from.ensures in
    (λ i. one i ∷ one i ∷ one i ∷ one i ∷ other i ∷ other i ∷ other i ∷ other i ∷ [])
