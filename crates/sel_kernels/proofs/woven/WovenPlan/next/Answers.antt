use Rattle.sel_kernels.proofs.{Common.sym, Common.◌∙◌, Flattening.pick_after, Flattening.pick_first}
use Rattle.sel_kernels.proofs.woven.WovenPlan.next.Goals as goal

pub invariant_of-self : goal.invariant_of-self
invariant_of-self c =
    let p = c.ready.new.self in
    record { rest = pick_after p.lanes.now p.left p.lane p.at p.part p.row p.rows c.ready.ensures.some p.rest }

pub returns : goal.returns
returns c =
    let p = c.ready.new.self in
    sym c.ready.ensures.picks ∙ pick_first p.lanes.now p.lane p.at p.part p.row p.rows c.ready.ensures.some
