use Rattle.sel_kernels.proofs.Common.{◌∙◌, all_within, ap, length, length-number_rows, primitive_rows, sym}
use Rattle.sel_kernels.proofs.{CheckedTakes.column-made, CheckedTakes.none-made, Takes.within_as}
use Rattle.sel_kernels.proofs.gather.checked.take_numbers.Goals as goal

pub array_of_taken-requires-clause-inside : goal.array_of_taken-requires-clause-inside
array_of_taken-requires-clause-inside g c =
    let values = c.args.values.now in
    let told = rw (c.in-Some.is, c.as_slice.ensures) at c.in_ok-take_values.ensures.within in
    within_as (length values.values) _ (primitive_rows c.args.indices.now) (sym (length-number_rows g.T.NativeType.number values.values values.validity)) told

pub returns-in-None : goal.returns-in-None
returns-in-None g c =
    let values = c.args.values.now in
    let told = rw (c.in-None.is, c.as_slice.ensures) at c.in_ok-take_values.ensures.outside in
    none-made _ _ _ (ap (λ n. all_within n (primitive_rows c.args.indices.now)) (length-number_rows g.T.NativeType.number values.values values.validity) ∙ told)

pub returns-in_ok-array-in-Some : goal.returns-in_ok-array-in-Some
returns-in_ok-array-in-Some g c =
    let values = c.args.values.now in
    let told = rw (c.in-Some.is, c.as_slice.ensures) at c.in_ok-take_values.ensures.within in
    column-made c.into_ref.result _ _ _ (c.into_ref.ensures.rows ∙ c.in_ok-array-in-Some.ensures.rows) c.into_ref.ensures.dtype
    (within_as (length values.values) _ (primitive_rows c.args.indices.now) (sym (length-number_rows g.T.NativeType.number values.values values.validity)) told)
