use Rattle.sel_ternary.proofs.{Common.refl, Common.w8, Common.bits, Common.cast_signed, Common.cast_unsigned, Common.top, Lanes.signed_lanes}
use Rattle.sel_ternary.proofs.if_then_else.lanes.I8ChooseLanes.push_sides.Goals as goal

pub returns-clause-items : goal.returns-clause-items
returns-clause-items c =
    signed_lanes (top 7) (cast_unsigned w8) refl refl (bits 16 c.args.mask) c.set_lanes_8.result c.set_lanes_8.ensures
    (cast_unsigned w8) (cast_signed w8) _ _ _ _ _ _ c.lanes_i8-one.ensures.values c.lanes_i8-other.ensures.values
    c.lanes_i8-one.ensures.range c.lanes_i8-other.ensures.range c.push_lanes.ensures.items
