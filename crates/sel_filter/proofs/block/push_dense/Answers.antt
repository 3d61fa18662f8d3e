use Rattle.sel_filter.proofs.Common.{◌≡◌, ◌+◌, ◌*◌, ◌/◌, ◌^◌, ◌∙◌, ap, subst, arith, shr-shr}
use Rattle.sel_filter.proofs.Dense.{IsDense, dense_more}
use Rattle.sel_filter.proofs.block.push_dense.Goals as goal

pub loop-round-preserved : goal.loop-round-preserved
loop-round-preserved g c =
    let xs = c.args.block.now in
    let m = c.args.mask in
    let old = c.args.out.now.items in
    let at = 16 * c.loop-round.round in
    let left = c.loop-round.invariant.left in
    let end : at + 16 ≡ 16 * (c.loop-round.round + 1) = omega arith in
    let one = dense_more xs m old _ _ 4 at _ (at + 4) (omega (arith, c.requires.block, c.loop-round-test.true)) left (omega arith) c.push_four.ensures.appended c.loop-round.invariant.dense in
    let two = dense_more xs m old _ _ 4 (at + 4) _ (at + 8) (omega (arith, c.requires.block, c.loop-round-test.true)) (ap (λ v. v / 2 ^ 4) left ∙ shr-shr m at 4) (omega arith) c.push_four-in-loop-round.ensures.appended one in
    let three = dense_more xs m old _ _ 4 (at + 8) _ (at + 12) (omega (arith, c.requires.block, c.loop-round-test.true)) (ap (λ v. v / 2 ^ 8) left ∙ shr-shr m at 8) (omega arith) c.push_four-in-loop-round-2.ensures.appended two in
    let four = dense_more xs m old _ _ 4 (at + 12) _ (at + 16) (omega (arith, c.requires.block, c.loop-round-test.true)) (ap (λ v. v / 2 ^ 12) left ∙ shr-shr m at 12) (omega arith) c.push_four-in-loop-round-3.ensures.appended three in
    record {
      left = ap (λ v. v / 2 ^ 16) left ∙ shr-shr m at 16 ∙ ap (λ j. m / 2 ^ j) end;
      capacity = omega (arith, c.push_four.ensures.capacity, c.push_four-in-loop-round.ensures.capacity, c.push_four-in-loop-round-2.ensures.capacity, c.push_four-in-loop-round-3.ensures.capacity, c.loop-round.invariant.capacity);
      dense = subst (IsDense xs m old c.push_four-in-loop-round-3.new.out.items) end four;
    }
