use Rattle.sel_kernels.proofs.Common.{◌≤◌, ◌∙◌, ap, sym, arith, length, w64, list_any, take_all, rows, LargeList, length-rows, lacks_place, to_z-of_z}
use Rattle.sel_kernels.proofs.Elements.{any_of_part}
use Rattle.sel_kernels.proofs.gather.sublist.list.is_oob_by_blocks.Goals as goal

pub returns-then-found : goal.returns-then-found
returns-then-found c =
    let column = LargeList c.args.offsets.now c.args.values.now c.args.validity.now in
    sym (ap (λ z. list_any (lacks_place z) (rows column)) (sym (to_z-of_z w64 c.args.index c.ranges.index)) ∙ any_of_part (lacks_place _) (rows column) c.loop-k.k (sym c.loop-k.invariant ∙ c.if-found.true))

pub returns : goal.returns
returns c =
    let column = LargeList c.args.offsets.now c.args.values.now c.args.validity.now in
    let all : length (rows column) ≤ c.loop-start.start = omega (arith, length-rows column, c.loop-start-test.false, c.len_proxy-len.ensures.count) in
    sym (ap (λ z. list_any (lacks_place z) (rows column)) (sym (to_z-of_z w64 c.args.index c.ranges.index)) ∙ ap (list_any (lacks_place _)) (sym (take_all c.loop-start.start (rows column) all)) ∙ c.loop-start.invariant)
