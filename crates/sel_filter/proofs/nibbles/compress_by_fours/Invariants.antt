-- The kept bits of the rounds so far are packed.
use Rattle.sel_filter.proofs.ByFours.{IsPacked}
use Rattle.sel_filter.proofs.nibbles.compress_by_fours.Given as goal

abbrev pub invariant-loop-i : goal.invariant-loop-i
invariant-loop-i l = IsPacked l.v l.m l._i l.values l.mask l.packed l.place
