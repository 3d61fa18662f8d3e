use Rattle.sel_kernels.proofs.Common.{primitive_rows}
use Rattle.sel_kernels.proofs.Elements.{entries_fit, entries_got}
use Rattle.sel_kernels.proofs.gather.sublist.fixed_size_list.gather_elements.Goals as goal

pub collect_one_plan-requires-clause-fits : goal.collect_one_plan-requires-clause-fits
collect_one_plan-requires-clause-fits c = rw c.values.ensures.column (entries_fit c.args.arr.now (primitive_rows c.args.index.now))

pub returns : goal.returns
returns c = rw (c.values.ensures.column, entries_got c.args.arr.now (primitive_rows c.args.index.now)) at c.collect_one_plan.ensures
