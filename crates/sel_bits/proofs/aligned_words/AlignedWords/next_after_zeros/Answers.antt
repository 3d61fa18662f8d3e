use Rattle.std.proofs.Common.{arith}
use Rattle.sel_bits.proofs.aligned_words.AlignedWords.next_after_zeros.Goals as goal

pub returns-in-Some-clause-word : goal.returns-in-Some-clause-word
returns-in-Some-clause-word c = grind arith
