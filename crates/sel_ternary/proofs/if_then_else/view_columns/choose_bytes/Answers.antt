use Rattle.sel_ternary.proofs.Common.{◌≡◌, ◌∙◌, ◌++◌, length, ap, arith, length-append, broadcast_both, scalar_buffers}
use Rattle.sel_ternary.proofs.{JoinedViews.two_placed, Validities.length-choose_of_two, Validities.no_validity}
use Rattle.sel_ternary.proofs.if_then_else.view_columns.choose_bytes.Goals as goal

pub invariant_of-result : goal.invariant_of-result
invariant_of-result c =
    let first = c.args.if_true.now in
    let second = c.args.if_false.now in
    let ms = c.args.mask.now.bits in
    let x = c.new_from_bytes-first.result in
    let y = c.new_from_bytes-second.result in
    let joined : c.in_ok-buffers.buffers ≡ scalar_buffers first ++ scalar_buffers second =
    c.in_ok-buffers.ensures.buffers ∙ (λ i. (c.deref.ensures.value ∙ c.in_ok-trues.ensures.buffers) i ++ (c.deref-2.ensures.value ∙ c.in_ok-falses.ensures.buffers) i) in
    let out : c.in_ok-views.views ≡ broadcast_both ms x y = c.in_ok-views.ensures.items in
    let long : length c.in_ok-views.views ≡ length ms = ap length out ∙ length-choose_of_two ms x y in
    record {
      rows_fit = omega (arith, long, c.requires);
      buffers_fit = omega (arith, ap length joined, length-append (scalar_buffers first) (scalar_buffers second), c.count_of_scalar-before.ensures, c.count_of_scalar.ensures);
      validity_fits = no_validity _;
      placed = two_placed first second x y c.new_from_bytes-first.ensures.view _ c.new_from_bytes-second.ensures.view c.count_of_scalar-before.ensures.count c.new_from_bytes-first.ensures.inline c.new_from_bytes-second.ensures.inline ms c.in_ok-views.views _ joined out;
    }
