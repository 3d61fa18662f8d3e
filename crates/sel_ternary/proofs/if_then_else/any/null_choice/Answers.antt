use Rattle.sel_ternary.proofs.Common.{rules, sym, ◌∙◌, [], ◌∷◌, ap, replicate, err_from_is_err_and, rows, Null}
use Rattle.sel_ternary.proofs.{WordKernels.null_run, Chosen.two_equal}
use Rattle.sel_ternary.proofs.if_then_else.any.null_choice.Goals as goal

pub returns-in_err-column : goal.returns-in_err-column
returns-in_err-column c =
    let p = err_from_is_err_and c.from_residual.result c.from_residual.ensures.1 in
    let picked = null_run (rows c.args.if_true.now.column ∷ rows c.args.if_false.now.column ∷ []) c.len.result ∙ ap (λ n. replicate n Null) c.len.ensures ∙ sym (two_equal c.args.mask.now.bits Null) in
    let refusal = rw (c.as_column.ensures.column, c.as_column-2.ensures.column, picked) at c.in_err-column.ensures.refusal in
    record { rows = search rules; dtype = search rules; within = search rules; refusal = rw (p.1, p.2) refusal }

pub returns : goal.returns
returns c =
    let picked = null_run (rows c.args.if_true.now.column ∷ rows c.args.if_false.now.column ∷ []) c.len.result ∙ ap (λ n. replicate n Null) c.len.ensures ∙ sym (two_equal c.args.mask.now.bits Null) in
    record {
      rows = rw (c.as_column.ensures.column, c.as_column-2.ensures.column, picked) at c.in_ok-column.ensures.rows;
      dtype = search rules;
      within = rw (c.as_column.ensures.column, c.as_column-2.ensures.column, picked) at c.in_ok-column.ensures.within;
      refusal = search rules;
    }
