use Rattle.sel_kernels.proofs.Common.{◌∙◌, ◌+◌, ◌*◌, ap, arith, sym, subst}
use Rattle.sel_kernels.proofs.Elements.{PlaceBelow, entry_small}
use Rattle.sel_kernels.proofs.gather.sublist.fixed_size_list.Blocks.entry_at.Goals as goal

pub overflow_cast-result : goal.overflow_cast-result
overflow_cast-result c =
    let blocks = c.args.self.now in
    let arr = blocks.arr.now in
    let k = c.args.k in
    let i = c.in_ok-i.i in
    let inside = subst (PlaceBelow arr.size) c.in_ok-i.was c.requires.below in
    let small = entry_small arr k i c.requires.inside (sym c.is_valid.ensures ∙ c.if-not-is_valid.false) inside in
    let same = ap (λ n. k * n + i) blocks.sized in
    omega (arith, small, same)
