use Rattle.std.proofs.Common.{◌≡◌, length, refl, arith}
use Rattle.sel_lines.proofs.TextViews.{grow_step}
use Rattle.sel_lines.proofs.texts.Texts.of_rows.Goals as goal

pub loop-row-preserved : goal.loop-row-preserved
loop-row-preserved c =
    let at : c.len.result ≡ length c.loop-row.bytes.items = omega (arith, c.len.ensures, c.loop-row.bytes.ok.0) in
    grow_step c.args.rows.now c.loop-row.row-index _ _ c.unwrap_or.result c.loop-row.bytes.items _ c.as_bytes-text.result.now c.loop-row.views.items _ c.loop-row.validity.items _ c.new_from_bytes.result c.is_some.result c.len.result
    (omega arith) c.loop-row.invariant c.unwrap_or.ensures refl c.is_some.ensures c.as_bytes-text.ensures.value at c.new_from_bytes.ensures.view c.new_from_bytes.ensures.inline c.unwrap_or.utf8
    c.in_ok-extend_from_slice.ensures.items c.in_ok-push.ensures.items c.in_ok-push-2.ensures.items
