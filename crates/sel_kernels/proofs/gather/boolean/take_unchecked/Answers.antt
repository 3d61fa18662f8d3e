use Rattle.sel_kernels.proofs.Common.{◌≡◌, ◌∙◌, [], ◌∷◌, List, Bool, length, ap, false, pos, arith, slice_index_or, primitive_rows, Truth, length-truth_rows}
use Rattle.sel_kernels.proofs.Common.{length-number_rows, map, hidden, pick_of, valid_pick}
use Rattle.sel_kernels.proofs.Takes.{within_as, covers_for, taken_rows, length-pick}
use Rattle.sel_kernels.proofs.gather.boolean.take_unchecked.Goals as goal

pub invariant_of-result : goal.invariant_of-result
invariant_of-result c =
    let values = c.args.values.now in
    let indices = primitive_rows c.args.indices.now in
    let count : length c.in_ok-bits.bits.bits ≡ length indices = ap (λ (l : List Bool). length l) c.in_ok-bits.ensures.bits ∙ length-pick (slice_index_or values.values.bits 0 false) (values.values.bits ∷ []) indices in
    record {
      rows_fit = omega (arith, count, length-number_rows pos c.args.indices.now.values c.args.indices.now.validity, c.args.indices.now.rows_fit);
      validity_fits = covers_for c.in_ok-validity.validity c.in_ok-bits.bits.bits indices values.validity c.in_ok-validity.ensures.bits count;
    }

pub returns-clause-rows : goal.returns-clause-rows
returns-clause-rows c =
    let values = c.args.values.now in
    let indices = primitive_rows c.args.indices.now in
    taken_rows Truth values.validity c.in_ok-validity.validity values.values.bits c.in_ok-bits.bits.bits (slice_index_or values.values.bits 0 false) indices values.validity_fits
    (within_as _ _ indices (length-truth_rows values.values.bits values.validity) c.requires) (ap (λ l. hidden (map (valid_pick values.validity) (map pick_of indices)) (map Truth l)) c.in_ok-bits.ensures.bits) c.in_ok-validity.ensures.bits
