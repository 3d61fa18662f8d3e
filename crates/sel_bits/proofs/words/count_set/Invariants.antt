-- The set bits of the blocks so far are counted.
use Rattle.std.proofs.Common.{◌≡◌, ◌*◌, take}
use Rattle.sel_bits.specs.Bits.{bits_from, count_true}
use Rattle.sel_bits.proofs.words.count_set.Given as goal

abbrev pub invariant-loop-block : goal.invariant-loop-block
invariant-loop-block l = l.count ≡ count_true (take (64 * l.block) (bits_from l.bytes l.shift l.len))
