use Rattle.std.proofs.Common.{arith, rules}
use Rattle.sel_ffi.proofs.{Common.common_steps, Common.held_rows, Common.held_type, Cloned.shared_more, Cloned.full_more, Cloned.kept_set}
use Rattle.sel_ffi.proofs.several.clone_all.Goals as goal

pub loop-i-preserved : goal.loop-i-preserved
loop-i-preserved c =
    let was = c.loop-i.invariant in
    let pushed = c.in-Ok-push.ensures.items in (
      grind (arith, common_steps),
      search (rules, kept_set),
      shared_more held_rows _ _ _ _ _ _ _ _ c.loop-i-test.true was.1 pushed was.2 c.in-Ok-clone_one.ensures.rows,
      shared_more held_type _ _ _ _ _ _ _ _ c.loop-i-test.true was.1 pushed was.3 c.in-Ok-clone_one.ensures.dtype,
      search (rules, full_more),
    )
