use Rattle.sel_kernels.proofs.Common.{ap, subst, ◌∙◌, err_from_is_err_and, primitive_rows, rows, type_of, memory_alone, exceeded_limits, take_rows}
use Rattle.sel_kernels.proofs.RowNeeds.{reversed_fits, reversed_take}
use Rattle.sel_kernels.proofs.reverse.reverse.Goals as goal

pub returns-in_err-reversed-clause-refusal : goal.returns-in_err-reversed-clause-refusal
returns-in_err-reversed-clause-refusal c =
    let p = err_from_is_err_and c.from_residual-in_err-reversed.result c.from_residual-in_err-reversed.ensures.1 in
    let column = c.args.column.now.column in
    let vs = rows column in
    let are = ap (take_rows vs) c.in_ok-indices.ensures.rows ∙ reversed_take vs c.len.result c.len.ensures.len in
    rw (p.1, p.2)
    (memory_alone (exceeded_limits (type_of column) (take_rows vs (primitive_rows c.in_ok-indices.indices))) c.in_err-reversed.field-0.0
    (λ limit h. reversed_fits column c.args.column.now.formed limit (subst (λ l. exceeded_limits (type_of column) l limit) are h)) c.in_err-reversed.ensures.refusal)
