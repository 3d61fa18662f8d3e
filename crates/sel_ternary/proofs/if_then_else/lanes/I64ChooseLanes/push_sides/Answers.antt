use Rattle.sel_ternary.proofs.Common.{length_part, ap, length, ◌∙◌, ◌+◌, ◌*◌, ◌/◌, ◌^◌, refl, arith, bits, w64, cast_signed, cast_unsigned, top}
use Rattle.sel_ternary.proofs.{Lanes.signed_lanes, Lanes.signed_length, Lanes.filled_size, Lanes.word_all, Lanes.word_next}
use Rattle.sel_ternary.proofs.if_then_else.lanes.I64ChooseLanes.push_sides.Goals as goal

pub loop-k-preserved : goal.loop-k-preserved
loop-k-preserved c =
    let at = 4 * c.loop-k.k in
    word_next 16 c.args.mask _ _ c.requires.true_side c.requires.false_side _ _ at c.loop-k.out c.loop-k.invariant 4 (4 * (c.loop-k.k + 1)) c.push_lanes.new.out _ _
    (omega (arith, c.loop-k-test.true)) (omega arith) c.part-trues.ensures c.part-falses.ensures
    (signed_lanes (top 63) (cast_unsigned w64) refl refl (bits 4 (c.args.mask / 2 ^ at)) c.set_lanes_64.result c.set_lanes_64.ensures
    (cast_unsigned w64) (cast_signed w64) _ _ _ _ _ _ c.lanes_i64-one.ensures.values c.lanes_i64-other.ensures.values
    c.lanes_i64-one.ensures.range c.lanes_i64-other.ensures.range c.push_lanes.ensures.items)
    c.push_lanes.ensures.capacity

pub lanes_i64-one-requires : goal.lanes_i64-one-requires
lanes_i64-one-requires c = ap length c.part-trues.ensures ∙ length_part (4 * c.loop-k.k) 4 _ (omega (arith, c.requires.true_side, c.loop-k-test.true))

pub lanes_i64-other-requires : goal.lanes_i64-other-requires
lanes_i64-other-requires c = ap length c.part-falses.ensures ∙ length_part (4 * c.loop-k.k) 4 _ (omega (arith, c.requires.false_side, c.loop-k-test.true))

pub push_lanes-requires-clause-room : goal.push_lanes-requires-clause-room
push_lanes-requires-clause-room c =
    omega (arith, filled_size _ _ _ _ _ _ _ c.loop-k.invariant, c.requires.room, c.loop-k.invariant.room, c.loop-k-test.true)

pub returns-clause-items : goal.returns-clause-items
returns-clause-items c =
    word_all 16 c.args.mask _ _ c.requires.true_side c.requires.false_side _ _ (4 * c.loop-k.k) c.loop-k.out c.loop-k.invariant (omega (arith, c.loop-k-test.false, c.loop-k.auto.k-end))

pub push_lanes-requires-clause-many : goal.push_lanes-requires-clause-many
push_lanes-requires-clause-many c =
    let at = 4 * c.loop-k.k in
    signed_length (top 63) (cast_unsigned w64) (cast_unsigned w64) (cast_signed w64) 4 (c.args.mask / 2 ^ at) _ _ _ c.set_lanes_64.ensures
    (ap length (c.lanes_i64-one.ensures.values ∙ c.part-trues.ensures) ∙ length_part at 4 _ (omega (arith, c.requires.true_side, c.loop-k-test.true)))
    (ap length (c.lanes_i64-other.ensures.values ∙ c.part-falses.ensures) ∙ length_part at 4 _ (omega (arith, c.requires.false_side, c.loop-k-test.true)))
