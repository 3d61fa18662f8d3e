use Rattle.sel_kernels.proofs.Common.{◌∙◌, ℕ, List, pos, length, ap, sym, primitive_rows, number_rows, length-number_rows}
use Rattle.sel_kernels.proofs.{Takes.covers_for, TakenStructs.live_rows}
use Rattle.sel_kernels.proofs.gather.validity.live_indices.Goals as goal

pub invariant_of-result-clause-validity_fits : goal.invariant_of-result-clause-validity_fits
invariant_of-result-clause-validity_fits c =
    let indices = c.args.indices.now in
    covers_for c.in_ok-validity.validity c.in_ok-values.values (primitive_rows indices) c.args.validity.now c.in_ok-validity.ensures.bits
    (ap (λ (l : List ℕ). length l) c.in_ok-values.ensures.items ∙ sym (length-number_rows pos indices.values indices.validity))

pub returns-clause-rows : goal.returns-clause-rows
returns-clause-rows c =
    let indices = c.args.indices.now in
    ap (λ (l : List ℕ). number_rows pos l c.in_ok-validity.validity) c.in_ok-values.ensures.items
    ∙ live_rows c.args.validity.now indices.validity c.in_ok-validity.validity indices.values c.in_ok-validity.ensures.bits (length-number_rows pos indices.values indices.validity)
