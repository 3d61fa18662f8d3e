use Rattle.sel_kernels.proofs.{Common.arith, Flattening.width_room}
use Rattle.sel_kernels.proofs.horizontal_flatten.lanes_of_parts.Goals as goal

pub lane_of-requires : goal.lane_of-requires
lane_of-requires c =
    let room = width_room c.args.widths.now c.loop-s.s (omega (arith, c.requires.paired, c.loop-s-test.true)) in
    omega (arith, room, c.requires.few)
