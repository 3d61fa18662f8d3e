use Rattle.sel_ternary.proofs.Common.{◌≡◌, ◌+◌, ◌*◌, ◌/◌, ◌≤◌, ◌∙◌, [], length, length_part, take, drop, subst, ap, arith, vec_capacity, bits, choose, IfOk-weaker}
use Rattle.std.specs.Prelude.{◌%◌}
use Rattle.std.proofs.lemmas.List.{take_rest}
use Rattle.sel_bits.specs.{Bits.bits_from, Words.word_of}
use Rattle.sel_ternary.proofs.{Chosen.AsLong, Chosen.chosen_to, Lanes.IsFilled, Lanes.block_bits, Lanes.few_filled, Lanes.filled_all, Lanes.filled_next}
use Rattle.sel_ternary.specs.SideValues.{side_values}
use Rattle.sel_ternary.proofs.if_then_else.by_lanes.choose_sides.Goals as goal

pub push_word-requires-clause-true_side : goal.push_word-requires-clause-true_side
push_word-requires-clause-true_side g c =
    ap length c.part-trues.ensures ∙ length_part (64 * c.loop-block.block) 64 (side_values c.args.if_true.now) (omega (arith, c.loop-block-test.true, c.as_slice-shift.ensures.len, c.requires.true_side))

pub push_word-requires-clause-false_side : goal.push_word-requires-clause-false_side
push_word-requires-clause-false_side g c =
    ap length c.part-falses.ensures ∙ length_part (64 * c.loop-block.block) 64 (side_values c.args.if_false.now) (omega (arith, c.loop-block-test.true, c.as_slice-shift.ensures.len, c.requires.false_side))

pub push_word-requires-clause-room : goal.push_word-requires-clause-room
push_word-requires-clause-room g c =
    let was = c.loop-block.invariant in
    omega (arith, few_filled _ _ _ _ (64 * c.loop-block.block) c.loop-block.out was, was.room, c.loop-block-test.true, c.loop-block.out.ok, c.in_ok-out.ensures.capacity)

pub loop-block-preserved : goal.loop-block-preserved
loop-block-preserved g c =
    let ms = c.args.mask.now.bits in
    let ts = side_values c.args.if_true.now in
    let fs = side_values c.args.if_false.now in
    let n = length ms in
    let block = c.loop-block.block in
    let capacity = vec_capacity c.in_ok-out.out in
    let long : AsLong n ms ts fs = record { mask = λ i. n; trues = c.requires.true_side; falses = c.requires.false_side } in
    let le : 64 * block + 64 ≤ c.as_slice-shift.result.2 = omega (arith, c.loop-block-test.true) in
    let marks = block_bits ms _ _ _ block 64 c.whole_word-word.result c.as_slice-shift.ensures.bits le c.whole_word-word.ensures in
    let next : 64 * block + 64 ≡ 64 * (block + 1) = omega arith in
    subst (λ j. IsFilled [] (chosen_to ms ts fs j) capacity c.push_word.new.out) next
    (filled_next n ms ts fs long [] capacity (64 * block) c.loop-block.out c.loop-block.invariant 64 c.push_word.new.out (choose (bits 64 c.whole_word-word.result) (side_values c.part-trues.result) (side_values c.part-falses.result)) c.push_word.ensures.items c.push_word.ensures.capacity
    (λ i. choose (marks i) (c.part-trues.ensures i) (c.part-falses.ensures i)))

pub push_word-requires-2-clause-room : goal.push_word-requires-2-clause-room
push_word-requires-2-clause-room g c =
    let was = c.loop-block.invariant in
    omega (arith, few_filled _ _ _ _ (64 * c.loop-block.block) c.loop-block.out was, was.room, c.loop-block.auto.block-end, c.loop-block.out.ok, c.in_ok-out.ensures.capacity)

pub returns-clause-items : goal.returns-clause-items
returns-clause-items g c =
    let ms = c.args.mask.now.bits in
    let ts = side_values c.args.if_true.now in
    let fs = side_values c.args.if_false.now in
    let n = length ms in
    let block = c.loop-block.block in
    let len = c.as_slice-shift.result.2 in
    let bytes = c.as_slice-shift.result.0.now in
    let shift = c.as_slice-shift.result.1 in
    let width = len % 64 in
    let capacity = vec_capacity c.in_ok-out.out in
    let long : AsLong n ms ts fs = record { mask = λ i. n; trues = c.requires.true_side; falses = c.requires.false_side } in
    let here : len / 64 * 64 ≡ 64 * block = omega (arith, c.loop-block-test.false, c.loop-block.auto.block-end) in
    let byte : len / 64 * 64 / 8 ≡ 8 * block = omega (arith, here) in
    let all : 64 * block + width ≡ n = omega (arith, here, c.as_slice-shift.ensures.len) in
    let le : 64 * block + width ≤ len = omega (arith, here) in
    let made : c.first_word-word.result ≡ word_of (bits_from (drop (8 * block) bytes) shift width) = rw (take_rest, byte) at c.first_word-word.ensures in
    let marks = block_bits ms bytes shift len block width c.first_word-word.result c.as_slice-shift.ensures.bits le made in
    let now = filled_next n ms ts fs long [] capacity (64 * block) c.loop-block.out c.loop-block.invariant width c.push_word-2.new.out (choose (bits width c.first_word-word.result) (side_values c.part-trues-2.result) (side_values c.part-falses-2.result)) c.push_word-2.ensures.items c.push_word-2.ensures.capacity
    (λ i. choose (marks i) ((c.part-trues-2.ensures ∙ ap (λ k. take width (drop k ts)) here) i) ((c.part-falses-2.ensures ∙ ap (λ k. take width (drop k fs)) here) i)) in
    IfOk-weaker c.from_vec.result _ _ (λ _ is. is ∙ filled_all n ms ts fs long [] capacity (64 * block + width) c.push_word-2.new.out now all) c.from_vec.ensures.items

pub push_word-requires-2-clause-true_side : goal.push_word-requires-2-clause-true_side
push_word-requires-2-clause-true_side g c =
    let len = c.as_slice-shift.result.2 in
    ap length c.part-trues-2.ensures ∙ length_part (len / 64 * 64) (len % 64) _ (omega (arith, c.requires.true_side, c.as_slice-shift.ensures.len))

pub push_word-requires-2-clause-false_side : goal.push_word-requires-2-clause-false_side
push_word-requires-2-clause-false_side g c =
    let len = c.as_slice-shift.result.2 in
    ap length c.part-falses-2.ensures ∙ length_part (len / 64 * 64) (len % 64) _ (omega (arith, c.requires.false_side, c.as_slice-shift.ensures.len))
