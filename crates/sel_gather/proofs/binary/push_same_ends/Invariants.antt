-- The ends so far are appended, all equal.
use Rattle.sel_gather.proofs.Common.{◌≡◌, ◌++◌, replicate, pos}
use Rattle.sel_gather.proofs.binary.push_same_ends.Given as goal

abbrev pub invariant-loop : goal.invariant-loop
invariant-loop l = l.ends.items ≡ l.initial.ends.items ++ replicate l.counter (pos l.before)
