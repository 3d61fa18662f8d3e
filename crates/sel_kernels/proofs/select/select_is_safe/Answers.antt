use Rattle.sel_kernels.proofs.Common.{arith, boolean_rows, primitive_rows, ◌≤◌, ◌∙◌, ap, sym, length, ◌==◌, list_all, take_all, rows, ArrayRef, all_within}
use Rattle.sel_kernels.proofs.SelectedRows.{unfit_at, all_long}
use Rattle.sel_kernels.proofs.select.select_is_safe.Goals as goal

pub returns-then-len : goal.returns-then-len
returns-then-len c =
    unfit_at c.args.columns.now (boolean_rows c.args.mask.now) (primitive_rows c.args.indices.now) c.loop-column.column-index c.column-item.result c.loop-column-test.true c.column-item.is
    (λ same. omega (arith, same, c.len.ensures.len, c.len-in-loop-column.ensures.len, c.if-len.true))

pub returns : goal.returns
returns c =
    let columns = c.args.columns.now in
    let mask = boolean_rows c.args.mask.now in
    let indices = primitive_rows c.args.indices.now in
    let all : length columns ≤ c.loop-column.column-index = omega (arith, c.loop-column-test.false) in
    let each = ap (list_all (λ (a : ArrayRef). length (rows a.column) == length mask)) (sym (take_all c.loop-column.column-index columns all)) ∙ c.loop-column.invariant in
    c.indices_in_bounds.ensures ∙ ap (λ n. all_within n indices) c.effective_len.ensures ∙ all_long columns mask indices each
