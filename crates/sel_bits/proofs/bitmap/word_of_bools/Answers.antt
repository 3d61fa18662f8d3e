use Rattle.std.proofs.Common.{◌≡◌, ◌+◌, ◌*◌, ◌%◌, ◌^◌, take, arith}
use Rattle.sel_bits.specs.Words.{word_of}
use Rattle.sel_bits.proofs.Packed.{word_of-next, word_of-few}
use Rattle.sel_bits.proofs.bitmap.word_of_bools.Goals as goal

next : (c : goal.After-from) → c.loop-i.word + c.from.result * 2 ^ c.loop-i.i % 2 ^ 64 ≡ word_of (take (c.loop-i.i + 1) c.args.values.now)
next c = word_of-next c.args.values.now c.loop-i.i c.loop-i.word c.from.result c.loop-i-test.true c.requires c.loop-i.invariant c.from.ensures

pub overflow_add-word : goal.overflow_add-word
overflow_add-word c = record { fits = omega (arith, next c, word_of-few c.args.values.now (c.loop-i.i + 1) (omega arith) c.requires) }

pub loop-i-preserved : goal.loop-i-preserved
loop-i-preserved c = next c
