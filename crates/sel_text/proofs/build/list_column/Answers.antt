use Rattle.std.proofs.Common.{ap, length, subst, sym, ◌∙◌}
use Rattle.sel_text.proofs.Common.{exceeds_limit, of_large_list, or_from, or_left, ReportsLimit, type_of}
use Rattle.sel_arrow.proofs.NestedRows.{length-rows}
use Rattle.sel_text.proofs.{Below.lists_made, Below.lists_past, Below.same_lists, Making.maker_told, Within.rows_few}
use Rattle.sel_text.proofs.build.list_column.Goals as goal

pub returns-in-Ok : goal.returns-in-Ok
returns-in-Ok c = λ b s vs fit ends child covers hides.
    let made = c.in-Ok.ensures in
    let kept = lists_made b s vs _ c.args.offsets c.args.validity fit ends child.1 hides in
    let are = c.into_ref.ensures.rows ∙ same_lists _ _ _ _ _ _ made.offsets made.values made.validity ∙ kept in (
      c.into_ref.ensures.dtype ∙ ap (λ x. of_large_list (type_of x)) made.values ∙ ap of_large_list child.0,
      are,
      or_from _ _ (rows_few c.into_ref.result vs are) child.2,
    )

pub returns-in-Err : goal.returns-in-Err
returns-in-Err c = λ b s vs fit ends child covers hides.
    let count = sym (length-rows c.args.child.column) ∙ ap length child.1 in
    let p = exceeds_limit b (of_large_list s) vs in
    subst (ReportsLimit p) (sym c.from.ensures) (maker_told _ c.in-Err.fault p c.in-Err.ensures.refused
    (λ m is. or_left _ _ (lists_past _ vs c.args.offsets _ c.args.validity m ends count covers is)))
