use Rattle.sel_ternary.proofs.{Common.length, Common.replicate, Common.bits, Chosen.IsChosen}
use Rattle.sel_ternary.proofs.if_then_else.scalar.if_then_else_broadcast_false_scalar_rest.Given as goal

abbrev pub invariant-loop-i : goal.invariant-loop-i
invariant-loop-i g l = IsChosen (bits (length l.initial.out) l.mask) l.if_true (replicate (length l.initial.out) l.if_false) l.initial.out l.i l.out
