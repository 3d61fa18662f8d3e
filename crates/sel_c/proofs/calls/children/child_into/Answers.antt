use Rattle.std.proofs.Common.{arith}
use Rattle.sel_c.proofs.{Depths.child_depth}
use Rattle.sel_c.proofs.calls.children.child_into.Goals as goal

pub put-requires : goal.put-requires
put-requires c =
    rw (c.in-Ok.ensures.dtype, c.in-Some.ensures.child) (omega (arith, child_depth c.args.column.now.column, c.requires))
