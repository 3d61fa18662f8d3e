-- The bits so far are equal.
use Rattle.sel_gather.{proofs.Common.◌≤◌, proofs.Common.◌<◌, proofs.Common.◌-◌, specs.KeptPicks.AreEqualBits}
use Rattle.sel_gather.proofs.live_runs.equal_bits.Given as goal

abbrev pub invariant-loop-count : goal.invariant-loop-count
invariant-loop-count l = record { some : 0 < l.count; within : l.count ≤ l.len; equal : AreEqualBits l.bits.bits l.start l.count }

abbrev pub decreases-loop-count : goal.decreases-loop-count
decreases-loop-count l = l.len - l.count
