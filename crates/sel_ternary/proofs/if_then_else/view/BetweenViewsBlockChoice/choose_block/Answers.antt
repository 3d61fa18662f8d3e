use Rattle.sel_ternary.proofs.Common.{◌≡◌, ◌+◌, ◌-◌, ◌∙◌, length, map, take, drop, ap, arith, bits, View, choose, can_rise, raised}
use Rattle.sel_arrow.proofs.Lists.{all_part}
use Rattle.sel_ternary.proofs.Placed.{map-part}
use Rattle.sel_ternary.proofs.if_then_else.view.BetweenViewsBlockChoice.choose_block.Goals as goal

pub if_then_else_view_rest-requires-clause-rises : goal.if_then_else_view_rest-requires-clause-rises
if_then_else_view_rest-requires-clause-rises c =
    let self = c.args.self.now in
    all_part (can_rise self.offset) self.if_false.now c.args.at (c.args.at + length c.args.out.now - c.args.at) self.rises

pub returns : goal.returns
returns c =
    let self = c.args.self.now in
    let f = λ (view : View). raised view self.offset in
    let k = length c.args.out.now in
    let at = c.args.at in
    let width : at + k - at ≡ k = omega arith in
    c.if_then_else_view_rest.ensures
    ∙ ap (λ j. choose (bits k c.args.mask) (take j (drop at self.if_true.now)) (map f (take j (drop at self.if_false.now)))) width
    ∙ ap (choose (bits k c.args.mask) (take k (drop at self.if_true.now))) (map-part f k at self.if_false.now)
