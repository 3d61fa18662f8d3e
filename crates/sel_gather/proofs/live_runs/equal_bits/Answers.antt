use Rattle.sel_gather.proofs.{Common.arith, Common.sym, LiveBits.bytes_equal, LiveBits.first_equal}
use Rattle.std.proofs.lemmas.List.{take_rest}
use Rattle.sel_gather.proofs.live_runs.equal_bits.Goals as goal

pub loop-count-init : goal.loop-count-init
loop-count-init c = record { some = omega arith; within = omega (arith, c.requires.some); equal = first_equal c.args.bits.now.bits c.args.start }

pub returns-then-equal-most-clause-equal : goal.returns-then-equal-most-clause-equal
returns-then-equal-most-clause-equal c =
    bytes_equal c.args.bits.now.bits c.as_slice-offset.result.0.now c.as_slice-offset.result.1 c.as_slice-offset.result.2 c.args.start c.loop-count.count c.min-most.result _ c.first_word-word.result c.get_bit-bit.result c.as_slice-offset.ensures.bits
    (omega (arith, c.as_slice-offset.ensures.len, c.requires.inside)) c.loop-count.invariant.equal (sym c.get_bit-bit.ensures) (rw take_rest at c.first_word-word.ensures) c.equal_low_bits-equal.ensures.within c.equal_low_bits-equal.ensures.equal

pub loop-count-preserved : goal.loop-count-preserved
loop-count-preserved c = record {
  some = omega (arith, c.loop-count.invariant.some);
  within = omega (arith, c.equal_low_bits-equal.ensures.within);
  equal = bytes_equal c.args.bits.now.bits c.as_slice-offset.result.0.now c.as_slice-offset.result.1 c.as_slice-offset.result.2 c.args.start c.loop-count.count c.min-most.result _ c.first_word-word.result c.get_bit-bit.result
      c.as_slice-offset.ensures.bits (omega (arith, c.as_slice-offset.ensures.len, c.requires.inside)) c.loop-count.invariant.equal (sym c.get_bit-bit.ensures) (rw take_rest at c.first_word-word.ensures) c.equal_low_bits-equal.ensures.within
      c.equal_low_bits-equal.ensures.equal;
}
