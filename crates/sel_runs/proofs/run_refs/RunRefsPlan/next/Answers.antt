use Rattle.sel_runs.proofs.{Common.All-tail, Common.IsNear, Common.unrolled}
use Rattle.sel_runs.proofs.RunLists.{All-left}
use Rattle.sel_runs.proofs.run_refs.RunRefsPlan.next.Goals as goal

pub split_first-next-requires-clause-near : goal.split_first-next-requires-clause-near
split_first-next-requires-clause-near g c = let p = c.ready.new.self in All-left IsNear (unrolled p.first) (g.R.Runs.picks p.rest) p.near

pub invariant_of-self-clause-near : goal.invariant_of-self-clause-near
invariant_of-self-clause-near g c = All-tail IsNear _ _ (rw c.split_first-next.ensures at c.ready.new.self.near)
