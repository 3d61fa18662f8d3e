use Rattle.std.proofs.Common.{◌≡◌, ◌++◌, length}
use Rattle.sel_bits.proofs.bitmap.Bitmap.from_bools.Given as goal

abbrev pub invariant-loop-rest : goal.invariant-loop-rest
invariant-loop-rest l = l.packer ++ l.rest ≡ l.values

abbrev pub decreases-loop-rest : goal.decreases-loop-rest
decreases-loop-rest l = length l.rest
