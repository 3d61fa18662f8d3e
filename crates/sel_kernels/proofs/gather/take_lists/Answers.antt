use Rattle.sel_kernels.proofs.Common.{rules, ◌≡◌, ◌∙◌, ap, sym, primitive_rows, rows, type_of, of_large_list, take_rows}
use Rattle.sel_gather.proofs.OneSource.{one_refused}
use Rattle.sel_kernels.proofs.Selects.{within_fit}
use Rattle.sel_kernels.proofs.gather.take_lists.Goals as goal

pub gather_lists-requires-clause-fits : goal.gather_lists-requires-clause-fits
gather_lists-requires-clause-fits c = within_fit (rows c.args.values.now) (primitive_rows c.args.indices.now) c.requires.inside

pub returns-in_err-column : goal.returns-in_err-column
returns-in_err-column c =
    let values = c.args.values.now in
    let vs = take_rows (rows values) (primitive_rows c.args.indices.now) in
    let kind : of_large_list (type_of c.deref.result.now) ≡ type_of values = ap (λ x. of_large_list (type_of x)) c.deref.ensures ∙ sym (ap type_of c.in-LargeList.is) in
    let refused = (one_refused c.from_residual.result values vs c.in_err-column.field-0.0 c.requires.formed c.from_residual.ensures.1 (rw kind at c.in_err-column.ensures.refusal)) in
    record { rows = search rules; dtype = search rules; refusal = refused.refusal }

pub collect_one_plan-requires-clause-fits : goal.collect_one_plan-requires-clause-fits
collect_one_plan-requires-clause-fits c = within_fit (rows c.args.values.now) (primitive_rows c.args.indices.now) c.requires.inside
