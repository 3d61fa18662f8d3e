use Rattle.sel_ternary.proofs.Common.{◌≡◌, ◌∙◌, ◌+◌, ◌≤◌, ◌++◌, length, map, ap, arith, length-append, length-map, view_value, View, choose, raised}
use Rattle.sel_bits.specs.Limits.{max_buffers}
use Rattle.sel_ternary.{specs.ViewSides.all_rise, proofs.Chosen.length-choose, proofs.Placed.views_rise, proofs.JoinedViews.both_placed}
use Rattle.sel_ternary.proofs.Validities.{choice_covers, side_covers, side_long}
use Rattle.sel_ternary.proofs.if_then_else.view_columns.choose_columns.Goals as goal

pub choose_views-requires-clause-rises : goal.choose_views-requires-clause-rises
choose_views-requires-clause-rises c =
    let b = c.args.if_false.now in
    let room : c.len-before.result + length b.buffers ≤ max_buffers = omega (arith, c.in_ok-check_limits.ensures.buffers, c.len.ensures) in
    ap (all_rise c.len-before.result) c.as_slice-falses.ensures ∙ views_rise b.buffers c.len-before.result b.views b.placed room

pub invariant_of-result : goal.invariant_of-result
invariant_of-result c =
    let a = c.args.if_true.now in
    let b = c.args.if_false.now in
    let ms = c.args.mask.now.bits in
    let p = side_long (view_value a.buffers) ms a.views a.validity c.requires.true_side in
    let q = side_long (view_value b.buffers) ms b.views b.validity c.requires.false_side in
    let joined : c.in_ok-buffers.buffers ≡ a.buffers ++ b.buffers = c.in_ok-buffers.ensures.buffers ∙ (λ i. c.as_slice.ensures i ++ c.as_slice-2.ensures i) in
    let out : c.in_ok-views.views ≡ choose ms a.views (map (λ (view : View). raised view (length a.buffers)) b.views) =
    c.in_ok-views.ensures.items ∙ (λ i. choose ms (c.as_slice-trues.ensures i) (map (λ (view : View). raised view (c.len-before.ensures i)) (c.as_slice-falses.ensures i))) in
    let long : length c.in_ok-views.views ≡ length ms = ap length out ∙ length-choose ms a.views (map (λ (view : View). raised view (length a.buffers)) b.views) p (length-map b.views (λ (view : View). raised view (length a.buffers)) ∙ q) in
    record {
      rows_fit = omega (arith, long, p, a.rows_fit);
      buffers_fit = omega (arith, ap length joined, length-append a.buffers b.buffers, c.in_ok-check_limits.ensures.buffers, c.len-before.ensures, c.len.ensures);
      validity_fits = choice_covers ms _ _ c.in_ok-validity.validity c.in_ok-views.views long
          (side_covers (view_value a.buffers) ms a.views a.validity _ a.validity_fits c.requires.true_side c.as_ref.ensures.value) (side_covers (view_value b.buffers) ms b.views b.validity _ b.validity_fits c.requires.false_side c.as_ref-2.ensures.value) c.in_ok-validity.ensures.value;
      placed = both_placed a.buffers b.buffers a.views b.views a.placed b.placed ms c.in_ok-views.views _ joined out;
    }
