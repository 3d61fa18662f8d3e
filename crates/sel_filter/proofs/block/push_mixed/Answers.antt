use Rattle.sel_filter.proofs.Common.{◌*◌, refl, arith}
use Rattle.sel_filter.proofs.{Dense.part_kept, WordLists.none_more}
use Rattle.sel_filter.proofs.block.push_mixed.Goals as goal

pub loop-block-preserved : goal.loop-block-preserved
loop-block-preserved g c = record {
  forward = omega (arith, c.loop-block.invariant.forward);
  within = omega (arith, c.loop-block-test.true);
  kept = λ front was.
      part_kept c.args.values.now _ c.args.bytes.now 0 _ refl refl (8 * c.loop-block.block) (64 * c.loop-block.block) 64 c.whole_word-word.result (omega arith) (omega arith) c.whole_word-word.ensures
      front c.loop-block.kept.items c.push_block.new.out.items _ 64 (omega arith) refl (c.loop-block.invariant.kept front was) c.push_block.ensures.appended;
}

pub loop-block-preserved-then-word-eq0 : goal.loop-block-preserved-then-word-eq0
loop-block-preserved-then-word-eq0 g c =
    let kept = c.loop-block.kept.items in
    record {
      forward = omega (arith, c.loop-block.invariant.forward);
      within = omega (arith, c.loop-block-test.true);
      kept = λ front was. part_kept c.args.values.now _ c.args.bytes.now 0 _ refl refl (8 * c.loop-block.block) (64 * c.loop-block.block) 64 c.whole_word-word.result (omega arith) (omega arith) c.whole_word-word.ensures
          front kept kept _ 64 (omega arith) refl (c.loop-block.invariant.kept front was) (none_more _ kept 64 c.whole_word-word.result c.if-word-eq0.true);
    }
