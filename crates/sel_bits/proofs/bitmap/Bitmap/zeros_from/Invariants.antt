-- The bits from `start` up to the current word are false.
use Rattle.std.proofs.Common.{◌≤◌, ◌-◌, length}
use Rattle.sel_bits.proofs.Zeros.{AreFalse}
use Rattle.sel_bits.proofs.bitmap.Bitmap.zeros_from.Given as goal

abbrev pub invariant-loop-at : goal.invariant-loop-at
invariant-loop-at l = record { after : l.start ≤ l.at; within : l.at ≤ length l.self.bits; zeros : AreFalse l.self.bits l.start l.at }

abbrev pub decreases-loop-at : goal.decreases-loop-at
decreases-loop-at l = length l.self.bits - l.at
