use Rattle.sel_ternary.proofs.{Common.◌+◌, Common.◌*◌, Common.arith, Lanes.word_all, Lanes.word_next}
use Rattle.sel_ternary.proofs.if_then_else.view_lanes.ViewChooseLanes.push_sides.Goals as goal

pub loop-k-preserved : goal.loop-k-preserved
loop-k-preserved c =
    word_next 16 c.args.mask _ _ c.requires.true_side c.requires.false_side _ _ (2 * c.loop-k.k) c.loop-k.out c.loop-k.invariant 2 (2 * (c.loop-k.k + 1)) c.push_pair.new.out _ _
    (omega (arith, c.loop-k-test.true)) (omega arith) c.part-trues.ensures c.part-falses.ensures c.push_pair.ensures.items c.push_pair.ensures.capacity

pub returns-clause-items : goal.returns-clause-items
returns-clause-items c =
    word_all 16 c.args.mask _ _ c.requires.true_side c.requires.false_side _ _ (2 * c.loop-k.k) c.loop-k.out c.loop-k.invariant (omega (arith, c.loop-k-test.false, c.loop-k.auto.k-end))
