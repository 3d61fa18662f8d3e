use Rattle.sel_ternary.proofs.Common.{length_part, ap, length, ◌∙◌, ◌+◌, ◌*◌, ◌/◌, ◌^◌, refl, arith, bits, w32, cast_unsigned, top}
use Rattle.sel_ternary.proofs.{Lanes.unsigned_lanes, Lanes.filled_size, Lanes.word_all, Lanes.word_next}
use Rattle.sel_ternary.proofs.if_then_else.lanes.U32ChooseLanes.push_sides.Goals as goal

pub loop-k-preserved : goal.loop-k-preserved
loop-k-preserved c =
    let at = 8 * c.loop-k.k in
    word_next 16 c.args.mask _ _ c.requires.true_side c.requires.false_side _ _ at c.loop-k.out c.loop-k.invariant 8 (8 * (c.loop-k.k + 1)) c.push_lanes.new.out _ _
    (omega (arith, c.loop-k-test.true)) (omega arith) c.part-trues.ensures c.part-falses.ensures
    (unsigned_lanes (top 31) (cast_unsigned w32) refl refl (bits 8 (c.args.mask / 2 ^ at)) c.set_lanes_32.result c.set_lanes_32.ensures
    _ _ _ _ _ _ c.lanes_u32-one.ensures c.lanes_u32-other.ensures c.push_lanes.ensures.items)
    c.push_lanes.ensures.capacity

pub lanes_u32-one-requires : goal.lanes_u32-one-requires
lanes_u32-one-requires c = ap length c.part-trues.ensures ∙ length_part (8 * c.loop-k.k) 8 _ (omega (arith, c.requires.true_side, c.loop-k-test.true))

pub lanes_u32-other-requires : goal.lanes_u32-other-requires
lanes_u32-other-requires c = ap length c.part-falses.ensures ∙ length_part (8 * c.loop-k.k) 8 _ (omega (arith, c.requires.false_side, c.loop-k-test.true))

pub push_lanes-requires-clause-room : goal.push_lanes-requires-clause-room
push_lanes-requires-clause-room c =
    omega (arith, filled_size _ _ _ _ _ _ _ c.loop-k.invariant, c.requires.room, c.loop-k.invariant.room, c.loop-k-test.true)

pub returns-clause-items : goal.returns-clause-items
returns-clause-items c =
    word_all 16 c.args.mask _ _ c.requires.true_side c.requires.false_side _ _ (8 * c.loop-k.k) c.loop-k.out c.loop-k.invariant (omega (arith, c.loop-k-test.false, c.loop-k.auto.k-end))
