-- The remaining offsets have a decrease exactly if all of them do.
use Rattle.std.proofs.Common.{◌≡◌, drop}
use Rattle.sel_bits.specs.Offsets.{falls_after}
use Rattle.sel_bits.proofs.offsets.any_fall_after.Given as goal

abbrev pub invariant-loop-offset : goal.invariant-loop-offset
invariant-loop-offset g l =
    let number = g.O.NativeType.number in
    falls_after number l.before (drop l.offset-index l.offsets) ≡ falls_after number l.fn.first l.offsets
