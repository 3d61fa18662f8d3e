use Rattle.sel_kernels.proofs.Common.{arith}
use Rattle.sel_kernels.proofs.filter.filter_with_bitmap.Goals as goal

pub sliced-requires : goal.sliced-requires
sliced-requires c =
    let run = c.in_ok-first.ensures.first c.in-Some.first c.in-Some.is in
    omega (arith, run.0, c.requires)
