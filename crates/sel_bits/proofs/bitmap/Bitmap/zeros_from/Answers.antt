use Rattle.std.proofs.Common.{◌≡◌, ◌+◌, ◌-◌, ◌<◌, sym, length, drop, arith}
use Rattle.std.specs.Int.{w64, trailing_zeros as lowest_place}
use Rattle.sel_bits.specs.Bits.{leading_zeros}
use Rattle.sel_bits.proofs.Zeros.{lowest_set}
use Rattle.sel_bits.proofs.bitmap.Bitmap.zeros_from.Goals as goal

found : (c : goal.Then-word-ne0)
    → (c.loop-at.at + lowest_place w64 c.word_at-word.result < length c.args.self.now.bits) × (leading_zeros (drop c.args.start c.args.self.now.bits) ≡ c.loop-at.at - c.args.start + lowest_place w64 c.word_at-word.result)
found c =
    lowest_set c.args.self.now.bits c.loop-at.at c.min-len.result c.word_at-word.result c.word_at-word.ensures (omega arith) c.if-word-ne0.true (omega arith)
    c.args.start c.loop-at.invariant.after c.loop-at.invariant.zeros

pub overflow_add-result : goal.overflow_add-result
overflow_add-result c = record { fits = omega (arith, found c) }

pub returns-then-word-ne0-clause-count : goal.returns-then-word-ne0-clause-count
returns-then-word-ne0-clause-count c = sym (found c).1

pub returns-then-word-ne0-clause-within : goal.returns-then-word-ne0-clause-within
returns-then-word-ne0-clause-within c = omega (arith, found c)
