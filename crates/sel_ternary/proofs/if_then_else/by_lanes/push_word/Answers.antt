use Rattle.sel_ternary.proofs.Common.{◌≡◌, ◌∙◌, ◌+◌, ◌-◌, ◌*◌, ◌/◌, ◌^◌, ◌++◌, length, length_part, subst, ap, arith, vec_capacity, bits, choose}
use Rattle.sel_ternary.proofs.{Chosen.chosen_to, Lanes.IsFilled, Lanes.bits_low, Lanes.filled_size, Lanes.word_all, Lanes.word_next}
use Rattle.sel_ternary.specs.SideValues.{side_values}
use Rattle.sel_ternary.proofs.if_then_else.by_lanes.push_word.Goals as goal

pub loop-k-preserved : goal.loop-k-preserved
loop-k-preserved g c =
    let at = 16 * c.loop-k.k in
    let low = ap (λ ms. c.loop-k.out.items ++ choose ms (side_values c.part-trues.result) (side_values c.part-falses.result)) (bits_low (c.args.mask / 2 ^ at)) in
    word_next c.args.count c.args.mask _ _ c.requires.true_side c.requires.false_side _ _ at c.loop-k.out c.loop-k.invariant 16 (16 * (c.loop-k.k + 1)) c.push_sides.new.out _ _
    (omega (arith, c.loop-k-test.true)) (omega arith) c.part-trues.ensures c.part-falses.ensures (c.push_sides.ensures.items ∙ low) c.push_sides.ensures.capacity

pub returns-then-rest-gt0-clause-items : goal.returns-then-rest-gt0-clause-items
returns-then-rest-gt0-clause-items g c =
    let n = c.args.count in
    let mask = c.args.mask in
    let at = n / 16 * 16 in
    let here : 16 * c.loop-k.k ≡ at = omega (arith, c.loop-k-test.false, c.loop-k.auto.k-end) in
    let was : IsFilled c.args.out.now.items (chosen_to (bits n mask) (side_values c.args.if_true.now) (side_values c.args.if_false.now) at) (vec_capacity c.args.out.now) c.loop-k.out =
    subst (λ j. IsFilled c.args.out.now.items (chosen_to (bits n mask) (side_values c.args.if_true.now) (side_values c.args.if_false.now) j) (vec_capacity c.args.out.now) c.loop-k.out) here c.loop-k.invariant in
    let now = word_next n mask _ _ c.requires.true_side c.requires.false_side _ _ at c.loop-k.out was (n - at) n c.push_bits.new.out _ _
    (omega arith) (omega arith) c.part-trues-then-rest-gt0.ensures c.part-falses-then-rest-gt0.ensures c.push_bits.ensures.items c.push_bits.ensures.capacity in
    word_all n mask _ _ c.requires.true_side c.requires.false_side _ _ n c.push_bits.new.out now (λ i. n)

pub returns-else-rest-gt0-clause-items : goal.returns-else-rest-gt0-clause-items
returns-else-rest-gt0-clause-items g c =
    word_all c.args.count c.args.mask _ _ c.requires.true_side c.requires.false_side _ _ (16 * c.loop-k.k) c.loop-k.out c.loop-k.invariant (omega (arith, c.if-rest-gt0.false, c.loop-k-test.false, c.loop-k.auto.k-end))

pub push_sides-requires-clause-true_side : goal.push_sides-requires-clause-true_side
push_sides-requires-clause-true_side g c = ap length c.part-trues.ensures ∙ length_part (16 * c.loop-k.k) 16 _ (omega (arith, c.requires.true_side, c.loop-k-test.true))

pub push_sides-requires-clause-false_side : goal.push_sides-requires-clause-false_side
push_sides-requires-clause-false_side g c = ap length c.part-falses.ensures ∙ length_part (16 * c.loop-k.k) 16 _ (omega (arith, c.requires.false_side, c.loop-k-test.true))

pub push_sides-requires-clause-room : goal.push_sides-requires-clause-room
push_sides-requires-clause-room g c =
    omega (arith, filled_size _ _ _ _ _ _ _ c.loop-k.invariant, c.requires.room, c.loop-k.invariant.room, c.loop-k-test.true)

pub push_bits-requires-clause-true_side : goal.push_bits-requires-clause-true_side
push_bits-requires-clause-true_side g c =
    let n = c.args.count in
    ap length c.part-trues-then-rest-gt0.ensures ∙ length_part (n / 16 * 16) (n - n / 16 * 16) _ (omega (arith, c.requires.true_side))

pub push_bits-requires-clause-false_side : goal.push_bits-requires-clause-false_side
push_bits-requires-clause-false_side g c =
    let n = c.args.count in
    ap length c.part-falses-then-rest-gt0.ensures ∙ length_part (n / 16 * 16) (n - n / 16 * 16) _ (omega (arith, c.requires.false_side))

pub push_bits-requires-clause-room : goal.push_bits-requires-clause-room
push_bits-requires-clause-room g c =
    omega (arith, filled_size _ _ _ _ _ _ _ c.loop-k.invariant, c.requires.room, c.loop-k.invariant.room, c.loop-k-test.false, c.loop-k.auto.k-end)
