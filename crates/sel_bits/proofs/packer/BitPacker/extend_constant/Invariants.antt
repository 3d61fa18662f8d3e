-- The first `at` bits are appended to the initial ones.
use Rattle.std.proofs.Common.{◌≡◌, ◌≤◌, ◌-◌, ◌++◌, replicate}
use Rattle.sel_bits.proofs.packer.BitPacker.extend_constant.Given as goal

abbrev pub invariant-loop-at : goal.invariant-loop-at
invariant-loop-at l = record { within : l.at ≤ l.len; bits : l.self ≡ l.initial.self ++ replicate l.at l.value }

abbrev pub decreases-loop-at : goal.decreases-loop-at
decreases-loop-at l = l.len - l.at
