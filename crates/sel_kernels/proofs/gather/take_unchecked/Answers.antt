use Rattle.sel_kernels.proofs.Common.{rules, ◌∙◌, ap, err_from_is_err_and, primitive_rows, rows, type_of, rows_pass, take_rows}
use Rattle.sel_kernels.proofs.gather.take_unchecked.Goals as goal

pub returns : goal.returns
returns c =
    record {
      rows = search rules;
      dtype = search rules;
      within =
          let taken = c.in_ok-taken.taken in
          let column = c.as_column.ensures.column in
          rows_pass taken.column (type_of c.args.values.now.column) _ taken.formed (c.in_ok-taken.ensures.dtype ∙ ap type_of column)
          (c.in_ok-taken.ensures.rows ∙ ap (λ x. take_rows (rows x) (primitive_rows c.args.indices.now)) column);
      refusal = search rules;
    }

pub returns-in_err-taken : goal.returns-in_err-taken
returns-in_err-taken c =
    record {
      rows = search rules;
      dtype = search rules;
      within = search rules;
      refusal =
          let p = err_from_is_err_and c.from_residual.result c.from_residual.ensures.1 in
          rw (p.1, p.2, ← c.as_column.ensures.column) c.in_err-taken.ensures.refusal;
    }
