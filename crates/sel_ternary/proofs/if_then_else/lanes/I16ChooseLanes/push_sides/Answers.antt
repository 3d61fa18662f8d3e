use Rattle.sel_ternary.proofs.{Common.refl, Common.w16, Common.bits, Common.cast_signed, Common.cast_unsigned, Common.top, Lanes.signed_lanes}
use Rattle.sel_ternary.proofs.if_then_else.lanes.I16ChooseLanes.push_sides.Goals as goal

pub returns-clause-items : goal.returns-clause-items
returns-clause-items c =
    signed_lanes (top 15) (cast_unsigned w16) refl refl (bits 16 c.args.mask) c.set_lanes_16.result c.set_lanes_16.ensures
    (cast_unsigned w16) (cast_signed w16) _ _ _ _ _ _ c.lanes_i16-one.ensures.values c.lanes_i16-other.ensures.values
    c.lanes_i16-one.ensures.range c.lanes_i16-other.ensures.range c.push_lanes.ensures.items
