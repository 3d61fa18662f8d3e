use Rattle.sel_gather.proofs.Common.{rules, ◌∷◌, [], rows, type_of, Null, pick, expand}
use Rattle.sel_gather.proofs.{OneSource.one_refused, Within.rows_pass}
use Rattle.sel_gather.proofs.one_source.collect_one.Goals as goal

pub returns-in_err-column : goal.returns-in_err-column
returns-in_err-column c = one_refused c.from_residual.result c.args.column.now _ c.in_err-column.field-0.0 c.requires.formed c.from_residual.ensures.1 c.in_err-column.ensures.refusal

pub returns : goal.returns
returns c =
    let within = rows_pass c.in_ok-column.column (type_of c.args.column.now) (pick Null (rows c.args.column.now ∷ []) (expand c.args.runs.now)) c.in_ok-column.ensures.formed c.in_ok-column.ensures.dtype c.in_ok-column.ensures.rows in
    record { rows = search rules; dtype = search rules; within = within; refusal = search rules }
