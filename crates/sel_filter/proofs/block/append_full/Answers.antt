use Rattle.sel_filter.proofs.Common.{◌≡◌, ◌*◌, ◌+◌, ◌-◌, ◌++◌, ◌∙◌, ap, refl, arith, take, drop, count_ones, append-nil}
use Rattle.sel_filter.proofs.{Dense.full_kept, WordSelects.full_count}
use Rattle.sel_filter.proofs.block.append_full.Goals as goal

pub loop-end-init : goal.loop-end-init
loop-end-init g c = record {
  forward = omega arith;
  within = omega (arith, c.requires.first);
  full = λ front old was. let none : 64 * c.args.first - 64 * c.args.first ≡ 0 = omega arith in ap (λ k. old ++ take k (drop (64 * c.args.first) c.args.values.now)) none ∙ append-nil old ∙ was;
}

pub loop-end-preserved : goal.loop-end-preserved
loop-end-preserved g c =
    let end = c.loop-end.end in
    let next : 64 * (end + 1) ≡ 64 * end + 64 = omega arith in
    record {
      forward = omega (arith, c.loop-end.invariant.forward);
      within = omega arith;
      full = λ front old was. rw next (full_kept c.args.values.now _ c.args.bytes.now 0 _ refl refl (8 * end) (64 * end) 64 c.whole_word.result (omega arith) (omega arith) c.whole_word.ensures
          front old (64 * c.args.first) (omega (arith, c.loop-end.invariant.forward)) (omega arith) (ap count_ones c.if-whole_word.true ∙ full_count) (c.loop-end.invariant.full front old was));
    }
