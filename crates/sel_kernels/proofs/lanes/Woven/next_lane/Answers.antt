use Rattle.sel_kernels.proofs.Common.{◌+◌, ◌∙◌, ap, length, refl, sym, subst, arith, HasLeft}
use Rattle.sel_kernels.proofs.Flattening.{lane_inside, part_done, row_after}
use Rattle.sel_kernels.proofs.lanes.Woven.next_lane.Goals as goal

pub overflow_add-result : goal.overflow_add-result
overflow_add-result c =
    let p = c.args.self.now in
    let has = subst (HasLeft p.lanes.now p.left) (part_done p.lane p.at p.part p.row p.rows p.lanes.now c.requires.done) p.rest in
    record { fits = omega (arith, lane_inside p.lanes.now p.left (p.lane + 1) p.row p.rows _ (record { width = 0; step = 0 }) c.if-self.true refl has) }

pub returns-else-self-clause-inside : goal.returns-else-self-clause-inside
returns-else-self-clause-inside c =
    let p = c.args.self.now in
    let done = part_done p.lane p.at p.part p.row p.rows p.lanes.now c.requires.done in
    (row_after (p.lane + 1) p.row p.rows p.lanes.now c.if-self.false (omega (arith, c.requires.some, p.rest.counted, ap length done))).1

pub returns-else-self-clause-picks : goal.returns-else-self-clause-picks
returns-else-self-clause-picks c =
    let p = c.args.self.now in
    let done = part_done p.lane p.at p.part p.row p.rows p.lanes.now c.requires.done in
    (row_after (p.lane + 1) p.row p.rows p.lanes.now c.if-self.false (omega (arith, c.requires.some, p.rest.counted, ap length done))).2 ∙ sym done
