use Rattle.sel_ternary.proofs.{Common.refl, Common.w16, Common.bits, Common.cast_unsigned, Common.top, Lanes.unsigned_lanes}
use Rattle.sel_ternary.proofs.if_then_else.lanes.U16ChooseLanes.push_sides.Goals as goal

pub returns-clause-items : goal.returns-clause-items
returns-clause-items c =
    unsigned_lanes (top 15) (cast_unsigned w16) refl refl (bits 16 c.args.mask) c.set_lanes_16.result c.set_lanes_16.ensures
    _ _ _ _ _ _ c.lanes_u16-one.ensures c.lanes_u16-other.ensures c.push_lanes.ensures.items
