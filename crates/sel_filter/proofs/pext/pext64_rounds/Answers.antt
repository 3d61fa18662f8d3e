use Rattle.sel_filter.proofs.Common.{◌≡◌, ◌<◌, ◌^◌, subst, sym, arith}
use Rattle.sel_bits.proofs.Prefix.{shift_fits}
use Rattle.sel_filter.proofs.{Rounds.MarksOdd, Rounds.parity_marks, RoundState.state_first, RoundState.state_next, RoundState.state_last, RoundState.last_marks}
use Rattle.sel_filter.proofs.pext.pext64_rounds.Goals as goal
use Rattle.sel_filter.proofs.pext.pext64_rounds.Goals.{then-i-lt5, else-i-lt5}

pub loop-i-init : goal.loop-i-init
loop-i-init c = rw c.keep.ensures (state_first c.args.m c.args.word.now c.ranges.m.fits c.requires.unmoved c.requires.whole)

pub move_down-requires-clause-by : goal.move_down-requires-clause-by
move_down-requires-clause-by c = shift_fits c.loop-i.i c.loop-i-test.true

pub loop-i-preserved : goal.loop-i-preserved
loop-i-preserved c =
    let marks : MarksOdd c.args.m c.loop-i.i c.if-i-lt5.odd = elim c.if-i-lt5.branch [
      | then-i-lt5 w ↦ subst (MarksOdd c.args.m c.loop-i.i) (sym w.odd-is) (parity_marks c.args.m c.loop-i.i c.loop-i.blocks w.prefix_xorsum-odd.result c.loop-i.invariant.counts w.prefix_xorsum-odd.ensures)
      | else-i-lt5 w ↦
          let last : c.loop-i.i ≡ 5 = omega arith in
          let counts = rw last at c.loop-i.invariant.counts in
          rw (last, w.odd-is) (last_marks c.args.m c.loop-i.blocks w.above_single-odd.result counts w.above_single-odd.ensures)
    ] in
    let fits : c.if-i-lt5.odd < 2 ^ 64 = omega arith in
    rw c.move_down.ensures (state_next c.args.m c.args.word.now.source c.loop-i.i c.loop-i.blocks c.if-i-lt5.odd c.loop-i.word c.ranges.m.fits c.loop-i-test.true fits marks c.loop-i.invariant)

pub returns-clause-compressed : goal.returns-clause-compressed
returns-clause-compressed c =
    let end : c.loop-i.i ≡ 6 = omega arith in
    state_last c.args.m c.args.word.now.source c.loop-i.i c.loop-i.blocks c.loop-i.word c.ranges.m.fits end c.loop-i.invariant
