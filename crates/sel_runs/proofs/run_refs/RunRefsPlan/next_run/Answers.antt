use Rattle.sel_runs.proofs.{Common.arith, Common.length-append, Common.IsNear, Common.unrolled}
use Rattle.sel_runs.proofs.RunLists.{All-right, length-unrolled}
use Rattle.sel_runs.proofs.run_refs.RunRefsPlan.next_run.Goals as goal

pub overflow_sub-self : goal.overflow_sub-self
overflow_sub-self g c =
    let p = c.ready.new.self in
    omega (arith, p.count, length-append (unrolled p.first) (g.R.Runs.picks p.rest), length-unrolled p.first)

pub invariant_of-self : goal.invariant_of-self
invariant_of-self g c =
    let p = c.ready.new.self in
    record {
      count = omega (arith, p.count, length-append (unrolled p.first) (g.R.Runs.picks p.rest), length-unrolled p.first);
      few = omega (arith, p.few);
      near = All-right IsNear (unrolled p.first) (g.R.Runs.picks p.rest) p.near;
    }
