use Rattle.sel_kernels.proofs.{Common.arith, Elements.few_lists}
use Rattle.sel_kernels.proofs.gather.sublist.list.ListPlacesPlaces.len.Goals as goal

pub returns-clause-few : goal.returns-clause-few
returns-clause-few c =
    let arr = c.args.self.now.arr.now in
    omega (arith, c.len_proxy.ensures.count, few_lists arr.offsets arr.values arr.validity arr.formed c.args.self.now.index)
