use Rattle.sel_ternary.proofs.Common.{◌≡◌, sym, arith, if◌then◌else◌, is_set}
use Rattle.sel_ternary.proofs.{Chosen.bit_takes_first, Chosen.bit_takes_second, Chosen.row_block, Chosen.word_long, Lanes.filled_next, Lanes.word_all}
use Rattle.sel_ternary.specs.SideValues.{side_values}
use Rattle.sel_ternary.proofs.if_then_else.lanes.push_bits.Goals as goal
use Rattle.sel_ternary.proofs.if_then_else.lanes.push_bits.Goals.{then-mask-i-eq1, else-mask-i-eq1}

pub loop-i-preserved : goal.loop-i-preserved
loop-i-preserved g c =
    let ts = side_values c.args.if_true.now in
    let fs = side_values c.args.if_false.now in
    let n = c.args.count in
    let mask = c.args.mask in
    let i = c.loop-i.i in
    let x = c.if-mask-i-eq1.push_reserved in
    let long = word_long n mask ts fs c.requires.true_side c.requires.false_side in
    let x_is : x ≡ (if is_set mask i then c.value-one.result else c.value-other.result) =
    elim c.if-mask-i-eq1.branch [
      | then-mask-i-eq1 w ↦ bit_takes_first mask i _ _ x w.if-mask-i-eq1.true w.push_reserved-is
      | else-mask-i-eq1 w ↦ bit_takes_second mask i _ _ x w.if-mask-i-eq1.false w.push_reserved-is
    ]
    in
    let block = row_block n mask ts fs i _ _ x long.trues long.falses c.loop-i-test.true c.value-one.ensures c.value-other.ensures x_is in
    filled_next n _ ts fs long c.args.out.now.items _ i c.loop-i.out c.loop-i.invariant 1 c.push_reserved.new.self _ c.push_reserved.ensures.items c.push_reserved.ensures.capacity (sym block)

pub returns-clause-items : goal.returns-clause-items
returns-clause-items g c =
    word_all c.args.count c.args.mask _ _ c.requires.true_side c.requires.false_side _ _ c.loop-i.i c.loop-i.out c.loop-i.invariant (omega (arith, c.loop-i-test.false, c.loop-i.auto.i-end))
