use Rattle.sel_ternary.proofs.{Common.take, Common.vec_capacity, Lanes.IsFilled}
use Rattle.sel_ternary.proofs.if_then_else.lanes.push_lanes.Given as goal

abbrev pub invariant-loop-i : goal.invariant-loop-i
invariant-loop-i g l = IsFilled (l.initial.out.items) (take l.i l.lanes) (vec_capacity l.initial.out) l.out
