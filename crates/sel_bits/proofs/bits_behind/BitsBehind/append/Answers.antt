use Rattle.std.proofs.Common.{rules}
use Rattle.sel_bits.proofs.Packs.{rest_fits}
use Rattle.sel_bits.proofs.bits_behind.BitsBehind.append.Goals as goal

pub invariant_of-self-2 : goal.invariant_of-self-2
invariant_of-self-2 c = search (rules, rest_fits)
