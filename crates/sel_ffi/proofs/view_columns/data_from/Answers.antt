use Rattle.std.proofs.Common.{rules, ◌≡◌, true, arith}
use Rattle.std.proofs.lemmas.Grind.{common_steps}
use Rattle.sel_ffi.proofs.Depths.{all_more}
use Rattle.sel_ffi.specs.ColumnsOver.{is_byte_buffer}
use Rattle.sel_ffi.specs.declared.buffer_ref.BufferRef.{BufferRef}
use Rattle.sel_ffi.proofs.view_columns.data_from.Goals as goal

pub loop-handle-preserved : goal.loop-handle-preserved
loop-handle-preserved c =
    let typed : is_byte_buffer c.handle-item.result.buffer ≡ true = search rules in (
      grind (arith, common_steps),
      all_more (λ (handle : BufferRef). is_byte_buffer handle.buffer ≡ true) _ _ _ _ c.loop-handle-test.true c.handle-item.is typed c.loop-handle.invariant.1,
    )
