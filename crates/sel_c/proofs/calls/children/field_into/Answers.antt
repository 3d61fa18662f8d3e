use Rattle.std.proofs.Common.{arith}
use Rattle.sel_c.proofs.{Depths.field_depth}
use Rattle.sel_c.proofs.calls.children.field_into.Goals as goal

pub put-requires : goal.put-requires
put-requires c =
    rw (c.in-Ok.ensures.dtype, c.in-Some.ensures.field) (omega (arith, field_depth c.args.column.now.column c.args.i c.in-Some.ensures.some, c.requires))
