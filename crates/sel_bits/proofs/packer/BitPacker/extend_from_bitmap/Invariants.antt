-- The first `at` bits are appended to the initial ones.
use Rattle.std.proofs.Common.{◌≡◌, ◌≤◌, ◌-◌, ◌++◌, take, drop}
use Rattle.sel_bits.proofs.packer.BitPacker.extend_from_bitmap.Given as goal

abbrev pub invariant-loop-at : goal.invariant-loop-at
invariant-loop-at l = record { within : l.at ≤ l.len; bits : l.self ≡ l.initial.self ++ take l.at (drop l.start l.bits.bits) }

abbrev pub decreases-loop-at : goal.decreases-loop-at
decreases-loop-at l = l.len - l.at
