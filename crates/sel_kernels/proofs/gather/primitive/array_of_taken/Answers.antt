use Rattle.sel_kernels.proofs.Common.{◌∙◌, length, pos, ap, sym, primitive_rows, Number, length-map, length-number_rows, near_value}
use Rattle.sel_kernels.proofs.Takes.{covers_for, near_rows, within_as}
use Rattle.sel_kernels.proofs.gather.primitive.array_of_taken.Goals as goal

pub invariant_of-result-clause-validity_fits : goal.invariant_of-result-clause-validity_fits
invariant_of-result-clause-validity_fits g c =
    let indices = c.args.indices.now in
    let items = c.in_ok-values.ensures.items ∙ c.requires.items in
    covers_for c.in_ok-validity.validity c.in_ok-values.values (primitive_rows indices) c.args.arr.now.validity c.in_ok-validity.ensures.bits
    (ap (λ l. length l) items ∙ length-map indices.values (near_value c.args.arr.now.values c.args._filler) ∙ sym (length-number_rows pos indices.values indices.validity))

pub returns-clause-rows : goal.returns-clause-rows
returns-clause-rows g c =
    let arr = c.args.arr.now in
    let indices = c.args.indices.now in
    near_rows (λ x. Number (g.T.NativeType.number x)) arr.validity c.in_ok-validity.validity indices.validity arr.values c.in_ok-values.values c.args._filler indices.values arr.validity_fits
    (within_as _ (length arr.values) (primitive_rows indices) (length-number_rows g.T.NativeType.number arr.values arr.validity) c.requires.inside) (c.in_ok-values.ensures.items ∙ c.requires.items)
    c.in_ok-validity.ensures.bits
