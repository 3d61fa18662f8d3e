use Rattle.sel_kernels.proofs.{Common.arith, Common.refl, Common.sym, Common.subst, Common.HasLeft, Flattening.lane_inside}
use Rattle.sel_kernels.proofs.lanes.Woven.ready.Goals as goal

pub overflow_mul-self : goal.overflow_mul-self
overflow_mul-self c =
    let p = c.args.self.now in
    let has = subst (HasLeft p.lanes.now p.left) (sym c.next_lane-lane.ensures.picks) p.rest in
    record { fits = omega (arith, lane_inside p.lanes.now p.left c.next_lane-lane.result.0 c.next_lane-lane.result.1 p.rows _ (record { width = 0; step = 0 }) c.next_lane-lane.ensures.inside refl has) }
