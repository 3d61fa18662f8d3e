use Rattle.sel_kernels.proofs.Common.{◌≡◌, ◌∙◌, all_within, ap, err_from_is_err_and, length, primitive_rows, rows, true}
use Rattle.sel_kernels.proofs.CheckedTakes.{none-taken}
use Rattle.sel_kernels.proofs.gather.checked.take_after_check.Goals as goal

pub returns-in_err-taken : goal.returns-in_err-taken
returns-in_err-taken c =
    let indices = primitive_rows c.args.indices.now in
    let p = err_from_is_err_and c.from_residual.result c.from_residual.ensures.1 in
    let told = c.indices_in_bounds.ensures ∙ ap (λ n. all_within n indices) c.len.ensures.len in
    let inside : all_within (length (rows c.args.values.now.column)) indices ≡ true = cc (told, c.if-not-indices_in_bounds.false) in
    rw (p.1, p.2) (none-taken c.in_err-taken.field-0.0 _ _ _ inside c.in_err-taken.ensures.refusal)
