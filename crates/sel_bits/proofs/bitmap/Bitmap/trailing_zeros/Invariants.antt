-- The bits after the current word are false.
use Rattle.std.proofs.Common.{◌≤◌, length}
use Rattle.sel_bits.proofs.Zeros.{AreFalse}
use Rattle.sel_bits.proofs.bitmap.Bitmap.trailing_zeros.Given as goal

abbrev pub invariant-loop-end : goal.invariant-loop-end
invariant-loop-end l = record { within : l.end ≤ length l.self.bits; zeros : AreFalse l.self.bits l.end (length l.self.bits) }

abbrev pub decreases-loop-end : goal.decreases-loop-end
decreases-loop-end l = l.end
