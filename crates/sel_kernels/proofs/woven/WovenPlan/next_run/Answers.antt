use Rattle.sel_kernels.proofs.Flattening.{part_after}
use Rattle.sel_kernels.proofs.woven.WovenPlan.next_run.Goals as goal

pub overflow_sub-self : goal.overflow_sub-self
overflow_sub-self c =
    let p = c.ready.new.self in
    (part_after p.lanes.now p.left p.lane p.at p.part p.row p.rows p.rest).0

pub invariant_of-self : goal.invariant_of-self
invariant_of-self c =
    let p = c.ready.new.self in
    record { rest = (part_after p.lanes.now p.left p.lane p.at p.part p.row p.rows p.rest).1 }
