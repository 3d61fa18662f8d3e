use Rattle.sel_kernels.proofs.{Common.length, Common.ap, Selects.kept_covers}
use Rattle.sel_kernels.proofs.filter.filter_boolean.Goals as goal

pub invariant_of-into_ref-clause-validity_fits : goal.invariant_of-into_ref-clause-validity_fits
invariant_of-into_ref-clause-validity_fits c =
    let array = c.args.array.now in
    let validity = rw c.as_ref.ensures.value at c.in_ok-values.ensures.validity in
    kept_covers array.validity c.in_ok-values.validity array.values.bits c.args.mask.now.bits (length c.in_ok-values.values.bits) array.validity_fits validity
    (ap (λ l. length l) c.in_ok-values.ensures.values)
