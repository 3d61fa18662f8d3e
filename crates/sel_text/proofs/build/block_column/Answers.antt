use Rattle.std.proofs.Common.{ap, length, subst, sym, ◌∙◌}
use Rattle.sel_text.proofs.Common.{exceeds_limit, exceeds_max, of_fixed_size_list, or_from, or_left, ReportsLimit, rows_repeated, type_of}
use Rattle.sel_arrow.proofs.NestedRows.{length-rows}
use Rattle.sel_text.proofs.{Below.blocks_made, Below.blocks_past, Below.same_blocks, Making.maker_told, Within.rows_few, Within.width_few}
use Rattle.sel_text.proofs.build.block_column.Goals as goal

pub returns-in-Ok-try_new : goal.returns-in-Ok-try_new
returns-in-Ok-try_new c = λ b s fit child.
    let vs = rows_repeated c.args.items.now in
    let array = c.in-Ok-try_new.array in
    let made = c.in-Ok-try_new.ensures in
    let kept = blocks_made s c.args.size vs _ c.in-Ok.made.0 c.in-Ok.made.1 fit c.in-Ok.ensures.count child.1 c.in-Ok.ensures.hides in
    let are = c.into_ref.ensures.rows ∙ same_blocks _ _ _ _ _ _ _ _ made.size made.len made.values made.validity ∙ kept in
    let narrow = ap exceeds_max (sym made.size) ∙ width_few array in (
      c.into_ref.ensures.dtype ∙ ap (λ x. of_fixed_size_list (type_of x) array.size) made.values ∙ ap (λ x. of_fixed_size_list x array.size) child.0 ∙ ap (of_fixed_size_list s) made.size,
      are,
      or_from _ _ (or_from _ _ (rows_few c.into_ref.result vs are) narrow) child.2,
    )

pub returns-in-Err-try_new : goal.returns-in-Err-try_new
returns-in-Err-try_new c = λ b s fit child.
    let vs = rows_repeated c.args.items.now in
    let count = sym (length-rows c.args.child.column) ∙ ap length child.1 in
    let p = exceeds_limit b (of_fixed_size_list s c.args.size) vs in
    subst (ReportsLimit p) (sym c.from.ensures) (maker_told _ c.in-Err-try_new.fault p c.in-Err-try_new.ensures.refused
    (λ m is. or_left _ _ (blocks_past s c.args.size vs c.in-Ok.made.0 _ c.in-Ok.made.1 m fit c.in-Ok.ensures.count count c.in-Ok.ensures.covers is)))
