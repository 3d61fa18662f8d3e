use Rattle.sel_runs.proofs.{Common.◌+◌, Common.◌∙◌, Common.arith, Common.length-drop}
use Rattle.sel_runs.proofs.RunLists.{length-extended, run_extended}
use Rattle.sel_runs.proofs.row_refs.Walk.extended.Goals as goal

pub joined-requires : goal.joined-requires
joined-requires g c =
    let ps = g.G.Places.picks c.loop-self.self.places in
    omega (arith, c.loop-self.invariant.few, c.loop-self.invariant.len, length-drop c.loop-self.self.at ps, c.run_of_pick.ensures.len, c.loop-self-test.true)

pub loop-self-preserved : goal.loop-self-preserved
loop-self-preserved g c =
    let ps = g.G.Places.picks c.loop-self.self.places in
    let at = c.loop-self.self.at in
    let all = c.loop-self.all in
    let both = c.in-Some.both in
    let long = length-extended all both c.run_of_pick.result c.in-Some.ensures in
    record {
      len = c.loop-self.invariant.len;
      picks = c.loop-self.invariant.picks ∙ run_extended all both c.run_of_pick.result ps at c.get.result (omega (arith, c.loop-self.invariant.len, c.loop-self-test.true)) c.get.ensures c.run_of_pick.ensures.picks c.in-Some.ensures;
      some = omega (arith, long, c.loop-self.invariant.some);
      few = omega (arith, long, c.run_of_pick.ensures.len, c.loop-self.invariant.few, c.loop-self.invariant.len, length-drop at ps, length-drop (at + 1) ps, c.loop-self-test.true);
    }
