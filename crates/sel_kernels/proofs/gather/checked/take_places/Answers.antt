use Rattle.sel_kernels.proofs.Common.{◌≡◌, ◌+◌, ◌∙◌, ap, arith, drop, length, length-append, near_value, sym, take, take-append-drop}
use Rattle.sel_kernels.proofs.CheckedTakes.{below_rest, block_more}
use Rattle.sel_kernels.proofs.gather.checked.take_places.Goals as goal

pub loop-rest-preserved : goal.loop-rest-preserved
loop-rest-preserved g c =
    let values = c.args.values.now in
    let rest = c.loop-rest.rest.now in
    let told = rw c.split_at.ensures.front at c.push_if_below.ensures in
    let long : length (take 32 rest) + length (drop 32 rest) ≡ length rest = sym (length-append (take 32 rest) (drop 32 rest)) ∙ ap length (take-append-drop 32 rest) in
    rw c.split_at.ensures.back
    (record {
      items =
          block_more (near_value values c.args.filler) rest c.args.places.now c.loop-rest.taken.items c.push_if_below.new.taken.items 32 c.loop-rest.invariant.items
          (told.items c.if-not-push_if_below.false);
      below = below_rest (length values) 32 rest (sym told.below ∙ c.if-not-push_if_below.false) ∙ c.loop-rest.invariant.below;
      room = omega (arith, told.len c.if-not-push_if_below.false, told.capacity, c.loop-rest.invariant.room, long);
    })
