use Rattle.sel_gather.proofs.Common.{◌-◌, ◌∙◌, ap, arith, take, drop}
use Rattle.sel_gather.proofs.ValidBytes.{live_part, part_below, part_bytes, part_first, part_inside}
use Rattle.sel_gather.proofs.binary.part_of.Goals as goal

pub overflow_add-start : goal.overflow_add-start
overflow_add-start c = record { fits = omega (arith, part_inside (live_part c.args.array.now c.args.start c.args.len c.requires.inside c.requires.live), c.args.array.now.rows_fit) }

pub at-end-requires : goal.at-end-requires
at-end-requires c = part_inside (live_part c.args.array.now c.args.start c.args.len c.requires.inside c.requires.live)

pub at-requires : goal.at-requires
at-requires c = omega (arith, part_inside (live_part c.args.array.now c.args.start c.args.len c.requires.inside c.requires.live))

pub slice_bounds-result-count : goal.slice_bounds-result-count
slice_bounds-result-count c =
    let first = part_first (live_part c.args.array.now c.args.start c.args.len c.requires.inside c.requires.live) c.args.len (omega arith) in
    omega (arith, c.at.ensures.value, c.at-end.ensures.value, first)

pub slice_bounds-result-start : goal.slice_bounds-result-start
slice_bounds-result-start c =
    let first = part_first (live_part c.args.array.now c.args.start c.args.len c.requires.inside c.requires.live) c.args.len (omega arith) in
    omega (arith, c.at.ensures.value, c.at-end.ensures.value, first)

pub slice_bounds-result-end : goal.slice_bounds-result-end
slice_bounds-result-end c =
    let given = live_part c.args.array.now c.args.start c.args.len c.requires.inside c.requires.live in
    rw c.as_slice.ensures (omega (arith, c.at.ensures.value, c.at-end.ensures.value, part_first given c.args.len (omega arith), part_below given c.args.len (omega arith)))

pub returns : goal.returns
returns c =
    ap (λ l. take (c.at-end.result - c.at.result) (drop c.at.result l)) c.as_slice.ensures
    ∙ rw (c.at.ensures.value, c.at-end.ensures.value) (part_bytes (live_part c.args.array.now c.args.start c.args.len c.requires.inside c.requires.live))
