use Rattle.sel_kernels.proofs.{Common.length, Common.ap, Selects.kept_covers}
use Rattle.sel_kernels.proofs.filter.filter_numbers.Goals as goal

pub invariant_of-into_ref-clause-validity_fits : goal.invariant_of-into_ref-clause-validity_fits
invariant_of-into_ref-clause-validity_fits g c =
    let array = c.args.column.now in
    kept_covers array.validity c.in_ok-values.validity array.values c.args.mask.now.bits (length c.in_ok-values.values) array.validity_fits c.in_ok-values.ensures.validity
    (ap (λ l. length l) c.in_ok-values.ensures.values)
