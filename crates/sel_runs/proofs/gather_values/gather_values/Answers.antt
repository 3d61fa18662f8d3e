use Rattle.sel_runs.proofs.{Common.map, Common.sym, Common.◌∙◌, Common.arith, Common.PickFits}
use Rattle.sel_runs.proofs.Gathers.{next_all, rest_is, values_next}
use Rattle.sel_runs.proofs.Common.{All, IfOk-weaker, ap, pick, rules, subst, take_all}
use Rattle.sel_runs.proofs.Mapped.{one_mapped}
use Rattle.sel_runs.proofs.gather_values.gather_values.Goals as goal

pub value_of_pick-requires : goal.value_of_pick-requires
value_of_pick-requires g c =
    let ps = g.P.Plan.picks c.args.plan.now in
    next_all (PickFits (map (λ s. s.values.now) c.args.parts.now)) ps _ c.next-pick.result c.loop-k.k (sym c.loop-k.invariant.rest ∙ c.next-pick.ensures) c.requires

pub loop-k-preserved : goal.loop-k-preserved
loop-k-preserved g c =
    let ps = g.P.Plan.picks c.args.plan.now in
    let xss = map (λ s. s.values.now) c.args.parts.now in
    let e = sym c.loop-k.invariant.rest ∙ c.next-pick.ensures in
    record {
      values = values_next c.args.zero xss ps _ c.next-pick.result c.loop-k.k c.loop-k.values.items c.push_reserved.new.self.items c.value_of_pick.result e c.loop-k.invariant.values c.value_of_pick.ensures c.push_reserved.ensures.items;
      rest = rest_is ps _ c.next-pick.result c.loop-k.k e;
      count = omega (arith, c.push_reserved.ensures.len, c.loop-k.invariant.count);
      room = omega (arith, c.push_reserved.ensures.capacity, c.loop-k.invariant.room);
    }

pub gather_one-requires : goal.gather_one-requires
gather_one-requires g c =
    let same = one_mapped (λ s. s.values.now) c.args.parts.now c.part-item.result c.part-item.result.values.now (omega (arith, c.in-len1.len_at_least)) (omega (arith, c.in-len1.len_below)) c.part-item.is (search rules) in
    subst (λ xss. All (PickFits xss) (g.P.Plan.picks c.args.plan.now)) (sym same) c.requires

pub returns-in-len1-clause-values : goal.returns-in-len1-clause-values
returns-in-len1-clause-values g c =
    let same = one_mapped (λ s. s.values.now) c.args.parts.now c.part-item.result c.part-item.result.values.now (omega (arith, c.in-len1.len_at_least)) (omega (arith, c.in-len1.len_below)) c.part-item.is (search rules) in
    IfOk-weaker c.gather_one.result _ _ (λ v is. is ∙ ap (λ xss. pick c.args.zero xss (g.P.Plan.picks c.args.plan.now)) same) c.gather_one.ensures.values

pub returns-clause-values : goal.returns-clause-values
returns-clause-values g c = c.loop-k.invariant.values ∙ ap (pick c.args.zero (map (λ s. s.values.now) c.args.parts.now)) (take_all c.loop-k.k (g.P.Plan.picks c.args.plan.now) (omega (arith, c.loop-k-test.false, c.len-len.ensures.len)))
