use Rattle.sel_kernels.proofs.Common.{◌∙◌, all_at, arith, get_or, get_or_default, length, ltb-true, nat_lt, near_value, sym}
use Rattle.sel_kernels.proofs.{CheckedTakes.push_after, Takes.near_at}
use Rattle.sel_kernels.proofs.gather.checked.push_places.Goals as goal

pub bounds-values-place : goal.bounds-values-place
bounds-values-place g c =
    let n = length c.args.values.now in
    let places = c.args.places.now in
    let k = c.loop-place.place-index in
    ltb-true (get_or places k 0) n (all_at (λ place. nat_lt place n) places k 0 c.requires.below c.loop-place-test.true)

pub loop-place-preserved : goal.loop-place-preserved
loop-place-preserved g c =
    let values = c.args.values.now in
    let filler = c.args.filler in
    let places = c.args.places.now in
    let k = c.loop-place.place-index in
    let place = get_or places k 0 in
    let below = all_at (λ place. nat_lt place (length values)) places k 0 c.requires.below c.loop-place-test.true in
    let here =
    c.index-values-place.is
    ∙ get_or_default values place c.index-values-place.result filler (ltb-true place (length values) below)
    ∙ sym (near_at values filler place below) in
    record {
      items = push_after (near_value values filler) places c.args.taken.now.items c.loop-place.taken.items c.push_reserved.new.self.items k place c.index-values-place.result c.loop-place-test.true
          (get_or_default places k 0 place c.loop-place-test.true) here c.push_reserved.ensures.items c.loop-place.invariant.items;
      count = omega (arith, c.push_reserved.ensures.len, c.loop-place.invariant.count);
      capacity = c.push_reserved.ensures.capacity ∙ c.loop-place.invariant.capacity;
    }
