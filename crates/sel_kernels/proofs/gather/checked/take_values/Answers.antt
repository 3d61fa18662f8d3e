use Rattle.sel_kernels.proofs.Common.{◌≡◌, ◌∙◌, all_below, all_within, ap, length, map, masked, Number, pos, primitive_rows, sym}
use Rattle.sel_kernels.proofs.Takes.{below_rows}
use Rattle.sel_kernels.proofs.gather.checked.take_values.Given.{Over}
use Rattle.sel_kernels.proofs.gather.checked.take_values.Goals as goal

-- Without a validity, the check of the indices is that of their values.
same : (g : Over) → (c : goal.After-take_places g) → all_below (length c.args.values.now) c.as_slice-places.result.now ≡ all_within (length c.args.values.now) (primitive_rows c.args.indices.now)
same g c =
    let n = length c.args.values.now in
    let indices = c.args.indices.now in
    let whole = ap (λ v. masked v (map (λ x. Number (pos x)) indices.values)) c.in-None.is in
    ap (all_below n) c.as_slice-places.ensures ∙ below_rows n indices.values ∙ sym (ap (all_within n) whole)

pub returns-in-None-clause-within : goal.returns-in-None-clause-within
returns-in-None-clause-within g c = rw (same g c) at c.take_places.ensures.within

pub returns-in-None-clause-outside : goal.returns-in-None-clause-outside
returns-in-None-clause-outside g c = rw (same g c) at c.take_places.ensures.outside
