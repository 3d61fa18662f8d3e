use Rattle.sel_ternary.proofs.if_then_else.array.FixedSizeListArrayIfThenElseKernel.if_then_else_broadcast_both.Goals as goal

pub returns-clause-within : goal.returns-clause-within
returns-clause-within c = rw (c.requires.true_fits) c.choose_ones.ensures.within
