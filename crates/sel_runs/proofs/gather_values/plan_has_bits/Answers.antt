use Rattle.sel_runs.proofs.Common.{◌≡◌, ◌-◌, suc, map, refl, sym, subst, ◌∙◌, arith, option_copied, HasBit}
use Rattle.sel_runs.proofs.PlanTests.{IsTested, tested_none, tested_next, tested_here, tested_all}
use Rattle.sel_runs.proofs.gather_values.plan_has_bits.Goals as goal

pub loop-left-init : goal.loop-left-init
loop-left-init g c = tested_none (HasBit (map option_copied c.args.maps.now)) (g.P.Plan.picks c.args.plan.now) _ _ c.again-rest.ensures c.len-left.ensures.len

pub loop-left-preserved : goal.loop-left-preserved
loop-left-preserved g c =
    let more : c.loop-left.left ≡ suc (c.loop-left.left - 1) = omega (arith, c.loop-left-test.true) in
    let was = subst (IsTested (HasBit (map option_copied c.args.maps.now)) (g.P.Plan.picks c.args.plan.now) (g.P.Plan.picks c.loop-left.rest)) more c.loop-left.invariant in
    tested_next (HasBit (map option_copied c.args.maps.now)) (g.P.Plan.picks c.args.plan.now) (g.P.Plan.picks c.loop-left.rest) _ c.next.result (c.loop-left.left - 1) was c.next.ensures (c.has_bit.ensures.0 c.if-not-has_bit.false)

pub returns-then-not-has_bit : goal.returns-then-not-has_bit
returns-then-not-has_bit g c = (
  λ never. absurd cc,
  λ all. sym c.if-not-has_bit.true ∙ c.has_bit.ensures.1 (tested_here (HasBit (map option_copied c.args.maps.now)) (g.P.Plan.picks c.args.plan.now) (g.P.Plan.picks c.loop-left.rest) _ c.next.result c.loop-left.left c.loop-left.invariant c.next.ensures all),
)

pub returns : goal.returns
returns g c =
    let none : c.loop-left.left ≡ 0 = omega (arith, c.loop-left-test.false) in
    let was = subst (IsTested (HasBit (map option_copied c.args.maps.now)) (g.P.Plan.picks c.args.plan.now) (g.P.Plan.picks c.loop-left.rest)) none c.loop-left.invariant in
    (λ yes. tested_all (HasBit (map option_copied c.args.maps.now)) (g.P.Plan.picks c.args.plan.now) (g.P.Plan.picks c.loop-left.rest) was, λ all. refl)
