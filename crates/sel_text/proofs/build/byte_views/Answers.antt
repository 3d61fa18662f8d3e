use Rattle.std.proofs.Common.{refl, ◌∙◌}
use Rattle.sel_text.proofs.Common.{of_binary_view, or_from, rows_repeated}
use Rattle.sel_text.proofs.Within.{rows_few}
use Rattle.sel_text.proofs.build.byte_views.Goals as goal

pub returns-in-Ok : goal.returns-in-Ok
returns-in-Ok c = λ fit.
    let vs = rows_repeated c.args.items.now in
    let are = c.into_ref.ensures.rows ∙ c.in-Ok.ensures.views of_binary_view refl fit in
    (c.into_ref.ensures.dtype, are, or_from _ _ (rows_few c.into_ref.result vs are) (c.in-Ok.ensures.within of_binary_view refl fit))

pub returns-in-Err : goal.returns-in-Err
returns-in-Err c = λ fit. c.in-Err.ensures.limit of_binary_view refl fit
