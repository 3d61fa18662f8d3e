use Rattle.sel_gather.proofs.Common.{◌∙◌, ◌<◌, ◌+◌, ◌++◌, ◌∷◌, [], ap, arith, refl, sym, w64, to_z_pos, PickFits, Null, item_ends, joined_items, length, map, pick, pos, take_all}
use Rattle.sel_runs.proofs.Gathers.{next_all, rest_is}
use Rattle.sel_gather.proofs.{ItemPicks.counted_below, ItemPicks.counted_more, ItemPicks.ended_more, ItemRuns.rows_of}
use Rattle.sel_gather.proofs.flat_lists.list_ends.Goals as goal

pub run_of_list-list-requires-clause-fits : goal.run_of_list-list-requires-clause-fits
run_of_list-list-requires-clause-fits g c =
    let ps = g.P.Plan.picks c.args.plan.now in
    next_all (PickFits (rows_of c.args.sources.now)) ps _ c.next.result c.loop-k.k (sym c.loop-k.invariant.rest ∙ c.next.ensures) c.requires.fits

pub returns-then-list-end-clause-refusal : goal.returns-then-list-end-clause-refusal
returns-then-list-end-clause-refusal g c =
    let ps = g.P.Plan.picks c.args.plan.now in
    let below = counted_below c.args.sources.now c.requires.lists c.requires.formed ps _ c.next.result c.loop-k.k (sym c.loop-k.invariant.rest ∙ c.next.ensures) c.requires.fits c.run_of_list-list.result c.run_of_list-list.ensures c.loop-k.end c.loop-k.invariant.count in
    omega (arith, below, c.if-list-end.true)

pub loop-k-preserved : goal.loop-k-preserved
loop-k-preserved g c =
    let ps = g.P.Plan.picks c.args.plan.now in
    let next = sym c.loop-k.invariant.rest ∙ c.next.ensures in
    let list = c.run_of_list-list.result in
    let end = c.loop-k.end + list.len in
    let small : end < 9223372036854775808 = omega arith in
    record {
      rest = rest_is ps _ c.next.result c.loop-k.k next;
      count = counted_more c.args.sources.now c.requires.lists c.requires.formed ps _ c.next.result c.loop-k.k next c.requires.fits list c.run_of_list-list.ensures c.loop-k.end c.loop-k.invariant.count;
      ends = ended_more c.args.sources.now c.requires.lists c.requires.formed ps _ c.next.result c.loop-k.k next c.requires.fits list c.run_of_list-list.ensures c.loop-k.end c.loop-k.invariant.count c.loop-k.ends.items c.push-in-loop-k.new.self.items _ (to_z_pos w64 end small) c.loop-k.invariant.ends c.in_ok-push-2.ensures.items;
    }

pub loop-k-init : goal.loop-k-init
loop-k-init g c = record { rest = c.again-rest.ensures; count = refl; ends = c.in_ok-push.ensures.items ∙ ap (λ l. l ++ pos 0 ∷ []) c.in_ok-ends.ensures.items }

pub returns-clause-ends : goal.returns-clause-ends
returns-clause-ends g c =
    c.loop-k.invariant.ends ∙ ap (λ ps. map pos (0 ∷ item_ends 0 (pick Null (rows_of c.args.sources.now) ps))) (take_all c.loop-k.k (g.P.Plan.picks c.args.plan.now) (omega (arith, c.loop-k-test.false, c.len-len.ensures.len)))

pub returns-clause-count : goal.returns-clause-count
returns-clause-count g c =
    c.loop-k.invariant.count ∙ ap (λ ps. length (joined_items 0 (pick Null (rows_of c.args.sources.now) ps))) (take_all c.loop-k.k (g.P.Plan.picks c.args.plan.now) (omega (arith, c.loop-k-test.false, c.len-len.ensures.len)))
