use Rattle.std.proofs.Common.{map}
use Rattle.sel_lines.proofs.Common.{length-map, err_from_is_err_and, rows, ArrayRef}
use Rattle.sel_lines.proofs.Flattened.{not_fitting, numbers_alike, refused_text}
use Rattle.sel_lines.proofs.flatten.flatten_columns.Goals as goal

pub returns-then-not-flatten_is_safe-clause-rows : goal.returns-then-not-flatten_is_safe-clause-rows
returns-then-not-flatten_is_safe-clause-rows c =
    let arrays = c.args.arrays.now in
    not_fitting c.args.height (map (λ (a : ArrayRef). rows a.column) arrays) c.args.widths.now (λ some fit.
    let long = rw length-map at some in
    let safe = c.flatten_is_safe.ensures.1 (long, numbers_alike arrays c.requires, fit) in
    let unsafe = c.if-not-flatten_is_safe.true in cc)

pub returns-in_err-flat-clause-refusal : goal.returns-in_err-flat-clause-refusal
returns-in_err-flat-clause-refusal c =
    let p = err_from_is_err_and c.from_residual.result c.from_residual.ensures.1 in
    let safe = c.flatten_is_safe.ensures.0 c.if-not-flatten_is_safe.false in
    rw (p.1, p.2) (refused_text c.args.height c.args.arrays.now c.args.widths.now c.in_err-flat.field-0.0 safe.0 c.requires safe.2 c.in_err-flat.ensures.refusal)
