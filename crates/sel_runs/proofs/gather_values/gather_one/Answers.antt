use Rattle.sel_runs.proofs.Common.{◌∷◌, [], sym, ◌∙◌, arith, PickFits}
use Rattle.sel_runs.proofs.Gathers.{next_all, rest_is, values_next}
use Rattle.sel_runs.proofs.Common.{ap, pick, take_all}
use Rattle.sel_runs.proofs.gather_values.gather_one.Goals as goal

pub value_of_place-requires : goal.value_of_place-requires
value_of_place-requires g c =
    let ps = g.P.Plan.picks c.args.plan.now in
    next_all (PickFits (c.args.from.now ∷ [])) ps _ c.next-pick.result c.loop-k.k (sym c.loop-k.invariant.rest ∙ c.next-pick.ensures) c.requires

pub loop-k-preserved : goal.loop-k-preserved
loop-k-preserved g c =
    let ps = g.P.Plan.picks c.args.plan.now in
    let xss = c.args.from.now ∷ [] in
    let e = sym c.loop-k.invariant.rest ∙ c.next-pick.ensures in
    record {
      values = values_next c.args.zero xss ps _ c.next-pick.result c.loop-k.k c.loop-k.values.items c.push_reserved.new.self.items c.value_of_place.result e c.loop-k.invariant.values c.value_of_place.ensures c.push_reserved.ensures.items;
      rest = rest_is ps _ c.next-pick.result c.loop-k.k e;
      count = omega (arith, c.push_reserved.ensures.len, c.loop-k.invariant.count);
      room = omega (arith, c.push_reserved.ensures.capacity, c.loop-k.invariant.room);
    }

pub returns-clause-values : goal.returns-clause-values
returns-clause-values g c = c.loop-k.invariant.values ∙ ap (pick c.args.zero (c.args.from.now ∷ [])) (take_all c.loop-k.k (g.P.Plan.picks c.args.plan.now) (omega (arith, c.loop-k-test.false, c.len-len.ensures.len)))
