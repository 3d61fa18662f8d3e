use Rattle.std.proofs.Common.{◌^◌}
use Rattle.sel_bits.proofs.Prefix.{Summed}
use Rattle.sel_bits.proofs.number.prefix_xorsum.Given as goal

abbrev pub invariant-loop-i : goal.invariant-loop-i
invariant-loop-i l = Summed l.x (2 ^ l.i) l.sum
