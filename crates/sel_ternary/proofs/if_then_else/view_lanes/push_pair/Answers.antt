use Rattle.sel_ternary.proofs.{Common.common_steps, Common.◌∙◌, Common.arith, Common.get_or, Common.View, Common.append_assoc, PairLanes.pair_chosen}
use Rattle.sel_ternary.specs.SideValues.{side_values}
use Rattle.sel_ternary.proofs.if_then_else.view_lanes.push_pair.Goals as goal

pub returns-clause-items : goal.returns-clause-items
returns-clause-items c =
    let ts = side_values c.args.if_true.now in
    let fs = side_values c.args.if_false.now in
    let d : View = record { length = 0; prefix = 0; buffer_idx = 0; offset = 0 } in
    let chosen = c.chosen_pair.ensures (get_or ts 0 d) (get_or ts 1 d) (get_or fs 0 d) (get_or fs 1 d) (c.lanes_of.ensures d) (c.lanes_of-2.ensures d)
    ∙ pair_chosen c.args.mask ts fs d c.requires.true_side c.requires.false_side in
    grind (arith, common_steps, chosen, append_assoc)
