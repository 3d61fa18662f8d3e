use Rattle.sel_kernels.proofs.Common.{arith}
use Rattle.sel_kernels.proofs.filter.filter_selected.Goals as goal

pub sliced-requires : goal.sliced-requires
sliced-requires c =
    let run = c.args.selection.now.consecutive c.in-Some.first c.in-Some.is in
    omega (arith, run.0, c.requires)
