use Rattle.sel_ternary.proofs.{Common.vec_capacity, Common.bits, Lanes.IsFilled, Chosen.chosen_to}
use Rattle.sel_ternary.specs.SideValues.{side_values}
use Rattle.sel_ternary.proofs.if_then_else.lanes.push_bits.Given as goal

abbrev pub invariant-loop-i : goal.invariant-loop-i
invariant-loop-i g l = IsFilled l.initial.out.items (chosen_to (bits l.count l.mask) (side_values l.if_true) (side_values l.if_false) l.i) (vec_capacity l.initial.out) l.out
