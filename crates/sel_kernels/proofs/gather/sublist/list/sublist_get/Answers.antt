use Rattle.sel_kernels.proofs.{Common.w64, Common.to_z-of_z, Elements.lists_fit, Elements.lists_got}
use Rattle.sel_kernels.proofs.gather.sublist.list.sublist_get.Goals as goal

pub collect_one_plan-requires-clause-fits : goal.collect_one_plan-requires-clause-fits
collect_one_plan-requires-clause-fits c =
    let arr = c.args.arr.now in
    rw (c.values.ensures.column, to_z-of_z w64 c.args.index c.ranges.index) (lists_fit arr.offsets arr.values arr.validity arr.formed c.args.index)

pub returns : goal.returns
returns c =
    let arr = c.args.arr.now in
    let got = lists_got arr.offsets arr.values arr.validity arr.formed c.args.index in
    rw (c.values.ensures.column, to_z-of_z w64 c.args.index c.ranges.index, got) at c.collect_one_plan.ensures
