use Rattle.sel_ternary.proofs.{Common.◌-◌, Common.length, Blocks.IsBegun}
use Rattle.sel_ternary.proofs.if_then_else.loops.choose_blocks.Given as goal

abbrev pub invariant-loop-word : goal.invariant-loop-word
invariant-loop-word g l = IsBegun l.fn.mask.source (g.C.BlockChoice.trues l.choice) (g.C.BlockChoice.falses l.choice) l.fn.out l.mask l.at l.out

abbrev pub decreases-loop-word : goal.decreases-loop-word
decreases-loop-word g l = length l.fn.mask.source.bits - l.at
