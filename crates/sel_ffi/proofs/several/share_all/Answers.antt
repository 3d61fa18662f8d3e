use Rattle.std.proofs.Common.{◌≤◌, arith}
use Rattle.sel_ffi.proofs.Common.{common_steps, depth, type_of, ArrayRef, HasColumn}
use Rattle.sel_ffi.{specs.declared.column_ref.ColumnRef.ColumnRef, proofs.Depths.all_more, proofs.Depths.all_pushed}
use Rattle.sel_ffi.proofs.several.share_all.Goals as goal

pub loop-handle-preserved : goal.loop-handle-preserved
loop-handle-preserved c = (
  grind (arith, common_steps),
  grind (arith, common_steps),
  grind (arith, common_steps),
  all_more (λ (x : ColumnRef). HasColumn x.tree) _ _ _ _ c.loop-handle-test.true c.handle-item.is c.in-Ok-share_one.ensures.full c.loop-handle.invariant.3,
  all_pushed (λ (x : ArrayRef). depth (type_of x.column) ≤ 128) _ _ _ c.in-Ok-push.ensures.items c.loop-handle.invariant.4 c.in-Ok-share_one.ensures.depth,
)
