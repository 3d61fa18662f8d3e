use Rattle.sel_runs.proofs.Common.{◌∙◌, map, sym, arith, option_copied, PickFits}
use Rattle.sel_runs.proofs.Gathers.{word_next, word_few, next_all, rest_is, values_behind}
use Rattle.sel_runs.proofs.Common.{◌≡◌, ◌++◌, ap, drop, pick, take}
use Rattle.sel_runs.proofs.gather_values.push_word.Goals as goal

pub row_of_pick-value-requires : goal.row_of_pick-value-requires
row_of_pick-value-requires g c =
    next_all (PickFits (map (λ s. s.values.now) c.args.parts.now)) (g.P.Plan.picks c.args.plan.now) _ c.next-pick.result c.loop-i.i (sym c.loop-i.invariant.rest ∙ c.next-pick.ensures) c.requires.fits

pub overflow_add-word : goal.overflow_add-word
overflow_add-word g c =
    let vs = map (λ s. option_copied s.validity) c.args.parts.now in
    let ps = g.P.Plan.picks c.args.plan.now in
    let next = word_next vs ps _ c.next-pick.result c.args.count c.loop-i.i c.loop-i.word c.from.result c.row_of_pick-value.result.1 (sym c.loop-i.invariant.rest ∙ c.next-pick.ensures) c.requires.inside c.requires.short c.loop-i-test.true c.loop-i.invariant.word c.row_of_pick-value.ensures.bit c.from.ensures in
    record { fits = omega (arith, next, word_few vs ps c.args.count c.loop-i.i c.requires.inside c.requires.short c.loop-i-test.true) }

pub loop-i-preserved : goal.loop-i-preserved
loop-i-preserved g c =
    let vs = map (λ s. option_copied s.validity) c.args.parts.now in
    let xss = map (λ s. s.values.now) c.args.parts.now in
    let ps = g.P.Plan.picks c.args.plan.now in
    let e = sym c.loop-i.invariant.rest ∙ c.next-pick.ensures in
    record {
      values = values_behind c.args.zero xss ps _ c.next-pick.result c.loop-i.i c.args.values.now.items c.loop-i.values.items c.push_reserved.new.self.items c.row_of_pick-value.result.0 e c.loop-i.invariant.values c.row_of_pick-value.ensures.value c.push_reserved.ensures.items;
      word = word_next vs ps _ c.next-pick.result c.args.count c.loop-i.i c.loop-i.word c.from.result c.row_of_pick-value.result.1 e c.requires.inside c.requires.short c.loop-i-test.true c.loop-i.invariant.word c.row_of_pick-value.ensures.bit c.from.ensures;
      rest = rest_is ps _ c.next-pick.result c.loop-i.i e;
      len = omega (arith, c.push_reserved.ensures.len, c.loop-i.invariant.len);
      capacity = c.push_reserved.ensures.capacity ∙ c.loop-i.invariant.capacity;
    }

pub returns-clause-values : goal.returns-clause-values
returns-clause-values g c =
    let all : c.loop-i.i ≡ c.args.count = omega arith in
    c.loop-i.invariant.values ∙ ap (λ k. c.args.values.now.items ++ pick c.args.zero (map (λ s. s.values.now) c.args.parts.now) (take k (g.P.Plan.picks c.args.plan.now))) all

pub returns-clause-rest : goal.returns-clause-rest
returns-clause-rest g c =
    let all : c.loop-i.i ≡ c.args.count = omega arith in
    c.loop-i.invariant.rest ∙ ap (λ k. drop k (g.P.Plan.picks c.args.plan.now)) all
