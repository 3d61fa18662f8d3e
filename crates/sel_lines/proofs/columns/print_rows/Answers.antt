use Rattle.std.proofs.Common.{◌∙◌, arith, ap, ◌++◌, lit<, string_bytes}
use Rattle.sel_lines.proofs.{Common.Null, Common.row_text, RowLemmas.join_step, RowLemmas.join_first_step}
use Rattle.sel_lines.proofs.columns.print_rows.Goals.{then-place-gt0+in_ok-push, else-place-gt0}
use Rattle.sel_lines.proofs.columns.print_rows.Goals as goal

pub loop-place-preserved : goal.loop-place-preserved
loop-place-preserved g c =
    let printed = c.in_ok-push_row.ensures in
    elim c.if-place-gt0.branch [
      | then-place-gt0+in_ok-push w ↦ join_step 44 row_text (g.C.Array.rows c.args.column.now) c.loop-place.place Null (string_bytes c.loop-place.text) (string_bytes c.if-place-gt0.text) _ (omega arith) w.if-place-gt0.true c.loop-place.invariant
          (ap string_bytes w.text-is ∙ w.in_ok-push.ensures.bytes ∙ ap (λ r. string_bytes c.loop-place.text ++ r) (w.in_ok-push.ensures.ascii (lit< tt)))
          printed
      | else-place-gt0 w ↦ join_first_step 44 row_text (g.C.Array.rows c.args.column.now) c.loop-place.place Null (string_bytes c.if-place-gt0.text) _ (omega arith) w.if-place-gt0.false (ap string_bytes w.text-is ∙ c.loop-place.invariant) printed
    ]
