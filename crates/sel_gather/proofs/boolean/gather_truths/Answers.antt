use Rattle.sel_gather.proofs.Common.{Some, ◌≡◌, ◌∙◌, length, map, ap, sym, subst, arith, false, length-map, Bits, Covers, hidden, bool_rows, Truth, bit_found}
use Rattle.sel_gather.proofs.Common.{bits_found}
use Rattle.sel_gather.proofs.Hiding.{values_fit, rows_picked}
use Rattle.sel_runs.proofs.BitPicks.{bits_fit}
use Rattle.sel_gather.proofs.{Hiding.truths_fit, Hiding.truths_found, Grown.finished}
use Rattle.sel_gather.proofs.boolean.gather_truths.Goals as goal

pub truths_of-requires : goal.truths_of-requires
truths_of-requires g c =
    let ps = g.P.Plan.picks c.args.plan.now in
    let arrays = c.args.arrays.now in
    let fits = values_fit (λ s. s.now.values.bits) (λ s. s.now.validity) (λ s. s.now.validity_fits) Truth false arrays ps c.requires in
    truths_fit (λ s. s.now.values) arrays ps fits

pub validity_of-requires : goal.validity_of-requires
validity_of-requires g c =
    let ps = g.P.Plan.picks c.args.plan.now in
    let arrays = c.args.arrays.now in
    let fits = values_fit (λ s. s.now.values.bits) (λ s. s.now.validity) (λ s. s.now.validity_fits) Truth false arrays ps c.requires in
    bits_fit (λ s. s.now.values.bits) (λ s. s.now.validity) (λ s. s.now.validity_fits) arrays ps fits

pub into_bitmap-requires : goal.into_bitmap-requires
into_bitmap-requires g c =
    ap length c.in_ok-bits.ensures.bits ∙ length-map (g.P.Plan.picks c.args.plan.now) (bit_found (map (λ s. Some s.now.values) c.args.arrays.now)) ∙ sym c.len-len.ensures.len

pub invariant_of-result : goal.invariant_of-result
invariant_of-result g c =
    let ps = g.P.Plan.picks c.args.plan.now in
    let long : length c.in_ok-values.values.bits ≡ length ps = ap (λ (b : Bits). length b.bits) c.in_ok-values.ensures.value ∙ ap length c.in_ok-bits.ensures.bits ∙ length-map ps (bit_found (map (λ s. Some s.now.values) c.args.arrays.now)) in
    record { rows_fit = omega (arith, long, c.len-len.ensures.len, c.len-len.ensures.few); validity_fits = subst (Covers c.in_ok-validity.validity) (sym long) c.in_ok-validity.ensures.covers }

pub returns-clause-rows : goal.returns-clause-rows
returns-clause-rows g c =
    let ps = g.P.Plan.picks c.args.plan.now in
    let arrays = c.args.arrays.now in
    let vs = map (λ s. s.now.validity) arrays in
    let fits = values_fit (λ s. s.now.values.bits) (λ s. s.now.validity) (λ s. s.now.validity_fits) Truth false arrays ps c.requires in
    let long = ap length c.in_ok-bits.ensures.bits ∙ length-map ps (bit_found (map (λ s. Some s.now.values) c.args.arrays.now)) in
    let values = c.in_ok-bits.ensures.bits ∙ truths_found (λ s. s.now.values) arrays ps fits in
    ap (λ (b : Bits). bool_rows b.bits c.in_ok-validity.validity) c.in_ok-values.ensures.value
    ∙ finished Truth c.in_ok-bits.bits c.in_ok-validity.validity (bits_found vs ps) (length ps) c.in_ok-validity.ensures.bits long
    ∙ ap (λ xs. hidden (bits_found vs ps) (map Truth xs)) values
    ∙ rows_picked (λ s. s.now.values.bits) (λ s. s.now.validity) (λ s. s.now.validity_fits) Truth false arrays ps fits
