use Rattle.std.proofs.Common.{◌≡◌, ◌+◌, ◌-◌, ◌<◌, length, arith, subst}
use Rattle.sel_bits.specs.Bits.{trailing_zeros}
use Rattle.sel_bits.proofs.Zeros.{AreFalse, highest_set}
use Rattle.sel_bits.proofs.bitmap.Bitmap.trailing_zeros.Goals as goal

found : (c : goal.After-ilog2)
    → (c.loop-end.end - c.min-len.result + c.ilog2.result < length c.args.self.now.bits) × (trailing_zeros c.args.self.now.bits ≡ length c.args.self.now.bits - (c.loop-end.end - c.min-len.result + c.ilog2.result + 1))
found c =
    let bits = c.args.self.now.bits in
    let from = c.loop-end.end - c.min-len.result in
    let end : c.loop-end.end ≡ from + c.min-len.result = omega arith in
    highest_set bits from c.min-len.result c.word_at-word.result c.word_at-word.ensures (omega arith) c.ilog2.result c.ilog2.ensures.power_le c.ilog2.ensures.next_power_gt
    (subst (λ e. AreFalse bits e (length bits)) end c.loop-end.invariant.zeros)

pub overflow_sub-result-then-word-ne0-2 : goal.overflow_sub-result-then-word-ne0-2
overflow_sub-result-then-word-ne0-2 c = omega (arith, found c)

pub returns-then-word-ne0-clause-count : goal.returns-then-word-ne0-clause-count
returns-then-word-ne0-clause-count c = omega (arith, found c)
