-- Loop invariant: the counts so far, and the number of true bits so far.
use Rattle.sel_kernels.proofs.Common.{◌≡◌, map, take, range_with_len, count_true}
use Rattle.sel_kernels.proofs.propagate_dictionary.counts_before.Given as goal

abbrev pub invariant-loop-i : goal.invariant-loop-i
invariant-loop-i l = (l.counts.items ≡ map (λ i. count_true (take i l.bits.bits)) (range_with_len 0 l.i)) × (l.count ≡ count_true (take l.i l.bits.bits))
