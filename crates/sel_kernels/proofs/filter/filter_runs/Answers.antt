use Rattle.sel_kernels.proofs.Common.{◌∷◌, [], ◌∙◌, subst, map, err_from_is_err_and, rows, type_of, Null, pick, memory_alone, exceeded_limits}
use Rattle.sel_kernels.proofs.Common.{exceeded_taken, place_pick, kept}
use Rattle.sel_gather.proofs.OneSource.{one_source}
use Rattle.sel_kernels.proofs.{Selects.picked_kept, RowNeeds.kept_fits}
use Rattle.sel_kernels.proofs.filter.filter_runs.Goals as goal

pub returns-in_err-column : goal.returns-in_err-column
returns-in_err-column c =
    let p = err_from_is_err_and c.from_residual.result c.from_residual.ensures.1 in
    let column = c.args.column.now in
    let mask = c.args.mask.now.bits in
    let picked = pick Null (rows column ∷ []) (map place_pick (kept mask)) in
    rw (p.1, p.2)
    (record {
      rows = tt;
      dtype = tt;
      refusal = (memory_alone (exceeded_taken (type_of column) (column ∷ []) picked) c.in_err-column.field-0.0
          (λ limit h. kept_fits column c.requires.formed mask limit (subst (λ l. exceeded_limits (type_of column) l limit) (picked_kept Null (rows column) mask c.requires.long) (one_source column c.requires.formed picked limit h)))
          c.in_err-column.ensures.refusal);
    })

pub returns : goal.returns
returns c =
    record { rows = c.in_ok-column.ensures.rows ∙ picked_kept Null (rows c.args.column.now) c.args.mask.now.bits c.requires.long; dtype = c.in_ok-column.ensures.dtype; refusal = tt }
