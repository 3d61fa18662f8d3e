use Rattle.std.proofs.Common.{◌<◌, ◌∙◌, arith, ap, sym, ◌++◌, length, lit<, string_bytes}
use Rattle.sel_lines.proofs.{Common.get_or-map, Common.length-map, Common.rows, Common.rows_of_arrays, Common.ArrayRef, Common.column_text, RowLemmas.join_step}
use Rattle.sel_lines.proofs.{RowLemmas.join_first_step, table.print_columns.Goals.then-place-gt0+in_ok-push, table.print_columns.Goals.else-place-gt0}
use Rattle.sel_lines.proofs.table.print_columns.Goals as goal

pub loop-place-preserved : goal.loop-place-preserved
loop-place-preserved c =
    let rows_of = λ (a : ArrayRef). rows a.column in
    let x = c.index-columns-place.result in
    let columns = c.args.columns.now in
    let within : c.loop-place.place < length (rows_of_arrays columns) = omega (arith, c.loop-place-test.true, length-map columns rows_of) in
    let shown = c.deref.ensures ∙ c.in_ok-printed.ensures
    ∙ ap column_text (ap rows_of c.index-columns-place.is
    ∙ sym (get_or-map rows_of columns c.loop-place.place x (rows_of x) c.loop-place-test.true)) in
    let printed = c.in_ok-push_str.ensures.bytes ∙ ap (λ r. string_bytes c.if-place-gt0.text ++ r) shown in
    elim c.if-place-gt0.branch [
      | then-place-gt0+in_ok-push w ↦ join_step 32 column_text (rows_of_arrays columns) c.loop-place.place (rows_of x)
          (string_bytes c.loop-place.text) (string_bytes c.if-place-gt0.text) _ within w.if-place-gt0.true c.loop-place.invariant
          (ap string_bytes w.text-is ∙ w.in_ok-push.ensures.bytes ∙ ap (λ r. string_bytes c.loop-place.text ++ r) (w.in_ok-push.ensures.ascii (lit< tt)))
          printed
      | else-place-gt0 w ↦ join_first_step 32 column_text (rows_of_arrays columns) c.loop-place.place (rows_of x)
          (string_bytes c.if-place-gt0.text) _ within w.if-place-gt0.false (ap string_bytes w.text-is ∙ c.loop-place.invariant) printed
    ]
