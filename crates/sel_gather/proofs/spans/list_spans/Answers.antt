use Rattle.sel_gather.proofs.Common.{◌∙◌, ◌<◌, ◌+◌, ◌∷◌, ap, arith, subst, sym, w64, to_z_pos, PickFits, Run, Some, Null, item_ends, joined_items, length, map, pick, pos, take_all}
use Rattle.sel_gather.specs.Spans.{AreStarts}
use Rattle.sel_runs.proofs.Gathers.{next_all, rest_is}
use Rattle.sel_gather.proofs.{ItemRuns.rows_of, ItemSpans.started_more}
use Rattle.sel_gather.proofs.ItemPicks.{counted_below, counted_more, ended_more}
use Rattle.sel_gather.proofs.spans.list_spans.Goals as goal

pub span_of_list-start-requires-clause-fits : goal.span_of_list-start-requires-clause-fits
span_of_list-start-requires-clause-fits g c =
    let ps = g.P.Plan.picks c.args.plan.now in
    next_all (PickFits (rows_of c.args.sources.now)) ps _ c.next.result c.loop-k.k (sym c.loop-k.invariant.rest ∙ c.next.ensures) c.requires.fits

pub returns-then-count-end-clause-refusal : goal.returns-then-count-end-clause-refusal
returns-then-count-end-clause-refusal g c =
    let ps = g.P.Plan.picks c.args.plan.now in
    let list : Run = record { source = Some 0; start = c.span_of_list-start.result.0; len = c.span_of_list-start.result.1 } in
    let below = counted_below c.args.sources.now c.requires.lists c.requires.formed ps _ c.next.result c.loop-k.k (sym c.loop-k.invariant.rest ∙ c.next.ensures) c.requires.fits list c.span_of_list-start.ensures c.loop-k.end c.loop-k.invariant.count in
    omega (arith, below, c.if-count-end.true)

pub loop-k-preserved : goal.loop-k-preserved
loop-k-preserved g c =
    let ps = g.P.Plan.picks c.args.plan.now in
    let next = sym c.loop-k.invariant.rest ∙ c.next.ensures in
    let list : Run = record { source = Some 0; start = c.span_of_list-start.result.0; len = c.span_of_list-start.result.1 } in
    let end = c.loop-k.end + list.len in
    let small : end < 9223372036854775808 = omega arith in
    record {
      rest = rest_is ps _ c.next.result c.loop-k.k next;
      count = counted_more c.args.sources.now c.requires.lists c.requires.formed ps _ c.next.result c.loop-k.k next c.requires.fits list c.span_of_list-start.ensures c.loop-k.end c.loop-k.invariant.count;
      starts = started_more c.args.sources.now ps _ c.next.result c.loop-k.k list.start list.len c.loop-k.starts.items c.push_reserved-in-loop-k.new.self.items next c.span_of_list-start.ensures c.loop-k.invariant.starts c.push_reserved-in-loop-k.ensures.items;
      ends = ended_more c.args.sources.now c.requires.lists c.requires.formed ps _ c.next.result c.loop-k.k next c.requires.fits list c.span_of_list-start.ensures c.loop-k.end c.loop-k.invariant.count c.loop-k.ends.items c.push_reserved-in-loop-k-2.new.self.items _ (to_z_pos w64 end small) c.loop-k.invariant.ends c.push_reserved-in-loop-k-2.ensures.items;
      starts_count = omega (arith, c.push_reserved-in-loop-k.ensures.len, c.loop-k.invariant.starts_count);
      starts_room = omega (arith, c.push_reserved-in-loop-k.ensures.capacity, c.loop-k.invariant.starts_room);
      ends_count = omega (arith, c.push_reserved-in-loop-k-2.ensures.len, c.loop-k.invariant.ends_count);
      ends_room = omega (arith, c.push_reserved-in-loop-k-2.ensures.capacity, c.loop-k.invariant.ends_room);
    }

pub returns-clause-ends : goal.returns-clause-ends
returns-clause-ends g c =
    c.loop-k.invariant.ends ∙ ap (λ ps. map pos (0 ∷ item_ends 0 (pick Null (rows_of c.args.sources.now) ps))) (take_all c.loop-k.k (g.P.Plan.picks c.args.plan.now) (omega (arith, c.loop-k-test.false, c.len-len.ensures.len)))

pub returns-clause-starts : goal.returns-clause-starts
returns-clause-starts g c =
    subst (λ ps. AreStarts c.args.sources.now ps c.loop-k.starts.items) (take_all c.loop-k.k (g.P.Plan.picks c.args.plan.now) (omega (arith, c.loop-k-test.false, c.len-len.ensures.len))) c.loop-k.invariant.starts

pub returns-clause-count : goal.returns-clause-count
returns-clause-count g c =
    c.loop-k.invariant.count ∙ ap (λ ps. length (joined_items 0 (pick Null (rows_of c.args.sources.now) ps))) (take_all c.loop-k.k (g.P.Plan.picks c.args.plan.now) (omega (arith, c.loop-k-test.false, c.len-len.ensures.len)))
