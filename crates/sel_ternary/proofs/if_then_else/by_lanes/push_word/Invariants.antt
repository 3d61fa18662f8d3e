use Rattle.sel_ternary.proofs.{Common.◌*◌, Common.vec_capacity, Common.bits, Lanes.IsFilled, Chosen.chosen_to}
use Rattle.sel_ternary.specs.SideValues.{side_values}
use Rattle.sel_ternary.proofs.if_then_else.by_lanes.push_word.Given as goal

abbrev pub invariant-loop-k : goal.invariant-loop-k
invariant-loop-k g l = IsFilled l.initial.out.items (chosen_to (bits l.count l.mask) (side_values l.if_true) (side_values l.if_false) (16 * l.k)) (vec_capacity l.initial.out) l.out
