use Rattle.sel_runs.proofs.Common.{◌∙◌, map, sym, arith, option_copied, HasBit}
use Rattle.sel_runs.proofs.Gathers.{word_next, word_few, next_all, rest_is}
use Rattle.sel_runs.proofs.gather_values.word_of_picks.Goals as goal

pub bit_of_pick-requires : goal.bit_of_pick-requires
bit_of_pick-requires g c =
    next_all (HasBit (map option_copied c.args.maps.now)) (g.P.Plan.picks c.args.plan.now) _ c.next-pick.result c.loop-i.i (sym c.loop-i.invariant.rest ∙ c.next-pick.ensures) c.requires.fits

pub overflow_add-word : goal.overflow_add-word
overflow_add-word g c =
    let vs = map option_copied c.args.maps.now in
    let ps = g.P.Plan.picks c.args.plan.now in
    let next = word_next vs ps _ c.next-pick.result c.args.count c.loop-i.i c.loop-i.word c.from.result c.bit_of_pick.result (sym c.loop-i.invariant.rest ∙ c.next-pick.ensures) c.requires.inside c.requires.short c.loop-i-test.true c.loop-i.invariant.word c.bit_of_pick.ensures c.from.ensures in
    record { fits = omega (arith, next, word_few vs ps c.args.count c.loop-i.i c.requires.inside c.requires.short c.loop-i-test.true) }

pub loop-i-preserved : goal.loop-i-preserved
loop-i-preserved g c =
    let vs = map option_copied c.args.maps.now in
    let ps = g.P.Plan.picks c.args.plan.now in
    let e = sym c.loop-i.invariant.rest ∙ c.next-pick.ensures in
    record {
      word = word_next vs ps _ c.next-pick.result c.args.count c.loop-i.i c.loop-i.word c.from.result c.bit_of_pick.result e c.requires.inside c.requires.short c.loop-i-test.true c.loop-i.invariant.word c.bit_of_pick.ensures c.from.ensures;
      rest = rest_is ps _ c.next-pick.result c.loop-i.i e;
    }
