use Rattle.sel_ternary.proofs.{Common.◌*◌, Common.vec_capacity, Common.bits, Lanes.IsFilled, Chosen.chosen_to}
use Rattle.sel_ternary.specs.SideValues.{side_values}
use Rattle.sel_ternary.proofs.if_then_else.lanes.I32ChooseLanes.push_sides.Given as goal

abbrev pub invariant-loop-k : goal.invariant-loop-k
invariant-loop-k l = IsFilled l.initial.out.items (chosen_to (bits 16 l.mask) (side_values l.if_true) (side_values l.if_false) (8 * l.k)) (vec_capacity l.initial.out) l.out
