-- The bits from `start` up to the current word are true.
use Rattle.std.proofs.Common.{◌≤◌, ◌-◌, length, map, not}
use Rattle.sel_bits.proofs.Zeros.{AreFalse}
use Rattle.sel_bits.proofs.bitmap.Bitmap.ones_from.Given as goal

abbrev pub invariant-loop-at : goal.invariant-loop-at
invariant-loop-at l = record { after : l.start ≤ l.at; within : l.at ≤ length l.self.bits; ones : AreFalse (map not l.self.bits) l.start l.at }

abbrev pub decreases-loop-at : goal.decreases-loop-at
decreases-loop-at l = length l.self.bits - l.at
