use Rattle.sel_kernels.proofs.Common.{◌∙◌, length, get_or, sym, arith, get_or_default, lt-ltb, near_value}
use Rattle.sel_arrow.proofs.Lists.{push_more}
use Rattle.sel_kernels.proofs.Takes.{near_at}
use Rattle.sel_kernels.proofs.gather.primitive.take_places.Goals as goal

pub loop-place-preserved : goal.loop-place-preserved
loop-place-preserved g c =
    let values = c.args.values.now in
    let filler = c.args.filler in
    let place = get_or c.args.places.now c.loop-place.place-index 0 in
    let inside = c.requires c.loop-place.place-index 0 c.loop-place-test.true in
    let here =
    c.index-values-place.is ∙ get_or_default values place c.index-values-place.result filler inside ∙ sym (near_at values filler place (lt-ltb place (length values) inside)) in
    record {
      items = push_more (near_value values filler) c.args.places.now _ _ c.loop-place.place-index place _ c.loop-place-test.true
          (get_or_default c.args.places.now c.loop-place.place-index 0 place c.loop-place-test.true) here c.push_reserved.ensures.items c.loop-place.invariant.items;
      count = omega (arith, c.push_reserved.ensures.len, c.loop-place.invariant.count);
      room = omega (arith, c.push_reserved.ensures.capacity, c.loop-place.invariant.room);
    }
