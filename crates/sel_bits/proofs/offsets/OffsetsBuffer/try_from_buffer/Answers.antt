use Rattle.std.proofs.Common.{sym, ◌∙◌}
use Rattle.sel_bits.proofs.OffsetLemmas.{accepted}
use Rattle.sel_bits.proofs.offsets.OffsetsBuffer.try_from_buffer.Goals as goal

-- Offsets without a broken rule are well-formed.
pub invariant_of-result : goal.invariant_of-result
invariant_of-result g c =
    accepted g.O.NativeType.number c.args.offsets (rw c.as_slice.ensures at (sym c.fault_of.ensures ∙ c.in_default.is))
