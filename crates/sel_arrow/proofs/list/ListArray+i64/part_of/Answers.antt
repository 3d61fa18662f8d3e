use Rattle.std.proofs.Common.{ap, length, arith}
use Rattle.sel_arrow.proofs.NestedParts.{lists_reach, lists_cover}
use Rattle.sel_arrow.proofs.list.ListArray+i64.part_of.Goals as goal

pub sliced-offsets-requires : goal.sliced-offsets-requires
sliced-offsets-requires c =
    let reach = lists_reach c.args.offsets.now c.args.values.now c.args.validity.now c.args.off c.args.len c.requires.formed c.requires.inside in
    omega (arith, reach, ap length c.in_ok-try_clone.ensures.value)

pub sliced_validity-requires : goal.sliced_validity-requires
sliced_validity-requires c = lists_cover c.args.offsets.now c.args.values.now c.args.validity.now c.args.off c.args.len c.requires.formed c.requires.inside
