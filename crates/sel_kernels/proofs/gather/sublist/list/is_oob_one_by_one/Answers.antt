use Rattle.sel_kernels.proofs.Common.{◌≤◌, ◌∙◌, ap, sym, arith, length, w64, list_any, take_all, rows, LargeList, length-rows, lacks_place, to_z-of_z}
use Rattle.sel_kernels.proofs.gather.sublist.list.is_oob_one_by_one.Goals as goal

pub returns : goal.returns
returns c =
    let column = LargeList c.args.offsets.now c.args.values.now c.args.validity.now in
    let all : length (rows column) ≤ c.loop-k.k = omega (arith, length-rows column, c.loop-k-test.false, c.len_proxy-k-end.ensures.count) in
    sym (ap (λ z. list_any (lacks_place z) (rows column)) (sym (to_z-of_z w64 c.args.index c.ranges.index)) ∙ ap (list_any (lacks_place _)) (sym (take_all c.loop-k.k (rows column) all)) ∙ c.loop-k.invariant)
