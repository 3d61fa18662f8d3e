use Rattle.sel_kernels.proofs.Common.{◌≡◌, pos, ◌∙◌, map, ap, arith, length, w64, to_z, of_z, range_with_len, number_value, rows_between, child_place}
use Rattle.sel_kernels.proofs.Common.{places_in, is_some, unwrap_or, to_z-of_z}
use Rattle.sel_kernels.proofs.Elements.{few_lists, mapped_count, mapped_more, places_shown}
use Rattle.sel_kernels.proofs.gather.sublist.list.sublist_get_indexes.Goals as goal

pub loop-k-preserved : goal.loop-k-preserved
loop-k-preserved c =
    let arr = c.args.arr.now in
    let places = child_place arr.offsets arr.validity (to_z w64 (of_z w64 c.args.index)) in (
      mapped_more (λ p. unwrap_or p 0) places c.loop-k.values.items c.push.new.self.items c.loop-k.k c.unwrap_or.result c.in_ok-push.ensures.items
          (c.unwrap_or.ensures ∙ ap (λ p. unwrap_or p 0) c.place_in_child-place.ensures) c.loop-k.invariant.0,
      mapped_more is_some places c.loop-k.validity c.push-in-loop-k.new.self c.loop-k.k c.is_some.result c.in_ok-push-2.ensures.pushed (c.is_some.ensures ∙ ap is_some c.place_in_child-place.ensures)
          c.loop-k.invariant.1,
    )

pub invariant_of-result-clause-rows_fit : goal.invariant_of-result-clause-rows_fit
invariant_of-result-clause-rows_fit c =
    let arr = c.args.arr.now in
    let places = child_place arr.offsets arr.validity (to_z w64 (of_z w64 c.args.index)) in
    let long = ap length (c.in_ok-values-2.ensures.items ∙ c.loop-k.invariant.0) ∙ mapped_count (λ p. unwrap_or p 0) places c.loop-k.k in
    let few = few_lists arr.offsets arr.values arr.validity arr.formed c.args.index in
    omega (arith, long, few, c.loop-k.auto.k-end, c.len_proxy-len.ensures.count)

pub returns-clause-rows : goal.returns-clause-rows
returns-clause-rows c =
    let arr = c.args.arr.now in
    let places = map (child_place arr.offsets arr.validity (to_z w64 (of_z w64 c.args.index))) (range_with_len 0 c.loop-k.k) in
    let all : c.loop-k.k ≡ rows_between arr.offsets = omega (arith, c.loop-k-test.false, c.loop-k.auto.k-end, c.len_proxy-len.ensures.count) in
    rw (c.in_ok-validity-2.ensures.value, c.loop-k.invariant.1, c.in_ok-values-2.ensures.items, c.loop-k.invariant.0, places_shown places, all)
    (ap (λ z. map (number_value pos) (places_in arr.offsets arr.validity z)) (to_z-of_z w64 c.args.index c.ranges.index))
