use Rattle.sel_kernels.proofs.Common.{◌∙◌, map, pos, ap, arith, take_all, number_rows, narrowed}
use Rattle.sel_kernels.proofs.Takes.{narrow_rows}
use Rattle.sel_kernels.proofs.gather.binary.narrow_indices.Goals as goal

pub returns-clause-rows : goal.returns-clause-rows
returns-clause-rows g c =
    let number = g.I.NativeType.number in
    let indices = c.args.indices.now in
    let all = take_all c.loop-index.index-index c.as_slice-wide.result.now (omega (arith, c.loop-index-test.false)) in
    let values = c.in_ok-values.ensures.items ∙ c.loop-index.invariant.items ∙ ap (map (λ x. narrowed (number x))) (all ∙ c.as_slice-wide.ensures) in
    (λ i. number_rows pos (values i) (c.in_ok-validity.ensures.value i)) ∙ narrow_rows number c.args._count indices.values indices.validity c.requires.few c.requires.inside
