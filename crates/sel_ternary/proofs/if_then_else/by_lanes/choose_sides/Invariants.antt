use Rattle.sel_ternary.proofs.{Common.[], Common.◌*◌, Common.vec_capacity, Lanes.IsFilled, Chosen.chosen_to}
use Rattle.sel_ternary.specs.SideValues.{side_values}
use Rattle.sel_ternary.proofs.if_then_else.by_lanes.choose_sides.Given as goal

abbrev pub invariant-loop-block : goal.invariant-loop-block
invariant-loop-block g l = IsFilled [] (chosen_to l.mask.bits (side_values l.if_true) (side_values l.if_false) (64 * l.block)) (vec_capacity l.initial.out) l.out
