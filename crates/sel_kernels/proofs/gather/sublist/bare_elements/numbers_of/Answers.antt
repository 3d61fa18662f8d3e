use Rattle.sel_kernels.proofs.Common.{ap, arith, length}
use Rattle.sel_kernels.proofs.BareElements.{elements_long}
use Rattle.sel_kernels.proofs.gather.sublist.bare_elements.numbers_of.Goals as goal

pub invariant_of-column-clause-rows_fit : goal.invariant_of-column-clause-rows_fit
invariant_of-column-clause-rows_fit g c =
    let made = rw c.in-Some.is at c.in_ok-values.ensures.rows in
    let count = elements_long g.T.NativeType.number c.in-Some.values.items _ c.args.size c.args.indices.now made in
    omega (arith, ap length c.in_ok-values-2.ensures.items, count, c.requires.few)
