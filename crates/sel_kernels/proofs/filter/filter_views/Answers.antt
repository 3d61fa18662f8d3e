use Rattle.sel_kernels.proofs.{Common.length, Common.ap, Selects.kept_covers}
use Rattle.sel_kernels.proofs.filter.filter_views.Goals as goal

pub invariant_of-result-clause-validity_fits : goal.invariant_of-result-clause-validity_fits
invariant_of-result-clause-validity_fits c =
    let array = c.args.array.now in
    kept_covers array.validity c.in_ok-views.validity array.views c.args.mask.now.bits (length c.in_ok-views.views) array.validity_fits c.in_ok-views.ensures.validity
    (ap (λ l. length l) c.in_ok-views.ensures.values)
