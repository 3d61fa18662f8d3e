use Rattle.sel_kernels.proofs.select.select_column.Goals as goal

pub returns-clause-refusal : goal.returns-clause-refusal
returns-clause-refusal c = rw (c.in_ok-kept.ensures.dtype, c.in_ok-kept.ensures.rows) at c.take_unchecked-taken.ensures.refusal
