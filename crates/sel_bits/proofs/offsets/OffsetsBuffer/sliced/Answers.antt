use Rattle.std.proofs.Common.{◌+◌, ◌<◌, length}
use Rattle.sel_bits.specs.Offsets.{magnitudes}
use Rattle.sel_bits.proofs.OffsetLemmas.{part_accepted}
use Rattle.sel_bits.proofs.offsets.OffsetsBuffer.sliced.Goals as goal

pub invariant_of-result : goal.invariant_of-result
invariant_of-result g c =
    let number = g.O.NativeType.number in
    let room : c.args.off + c.args.len < length (magnitudes number c.self.inside.offsets) = rw c.self.view_is c.requires in
    rw c.sliced.ensures (part_accepted number c.self.inside.offsets c.args.off c.args.len c.self.invariant room)
