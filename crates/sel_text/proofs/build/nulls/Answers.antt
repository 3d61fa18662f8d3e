use Rattle.std.proofs.Common.{ap, replicate, ◌∙◌}
use Rattle.sel_text.proofs.Common.{Null, rows_repeated}
use Rattle.sel_text.proofs.{Making.all_nulls, Within.rows_few}
use Rattle.sel_text.proofs.build.nulls.Goals as goal

pub returns : goal.returns
returns c = λ b fit.
    let vs = rows_repeated c.args.items.now in
    let long = c.in_ok-try_new.ensures.length ∙ c.in_ok-count.ensures.count in
    let are = c.into_ref.ensures.rows ∙ ap (λ n. replicate n Null) long ∙ all_nulls vs fit in
    (c.into_ref.ensures.dtype, are, rows_few c.into_ref.result vs are)
