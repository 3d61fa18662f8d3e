use Rattle.sel_ternary.proofs.{Common.refl, Common.Bool, Common.ℤ, Common.cond, Common.w16, Common.cast_signed, Lanes.lanes_marked}
use Rattle.sel_ternary.proofs.if_then_else.lanes.set_lanes_16.Goals as goal

abbrev lane : Bool → ℤ
lane b = cast_signed w16 (cond b 65535 0)

pub returns : goal.returns
returns c = lanes_marked 16 c.args.mask lane refl refl
