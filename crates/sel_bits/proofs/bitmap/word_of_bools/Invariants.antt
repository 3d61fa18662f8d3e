use Rattle.std.proofs.Common.{◌≡◌, take}
use Rattle.sel_bits.specs.Words.{word_of}
use Rattle.sel_bits.proofs.bitmap.word_of_bools.Given as goal

abbrev pub invariant-loop-i : goal.invariant-loop-i
invariant-loop-i l = l.word ≡ word_of (take l.i l.values)
