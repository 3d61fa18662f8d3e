-- Loop invariant: the greatest position so far is less than `len` if all so far are.
use Rattle.sel_kernels.proofs.Common.{◌≡◌, take, all_below, nat_lt}
use Rattle.sel_kernels.proofs.gather.are_below.Given as goal

abbrev pub invariant-loop-place : goal.invariant-loop-place
invariant-loop-place l = nat_lt l.greatest l.len ≡ all_below l.len (take l.place-index l.places)
