use Rattle.sel_gather.proofs.Common.{◌≡◌, ◌+◌, ap, sym, subst, rules, item_picks, unrolled}
use Rattle.sel_gather.proofs.{ItemPicks.row_inside, ItemPicks.row_items}
use Rattle.sel_gather.proofs.NearRows.{near_at}
use Rattle.sel_runs.proofs.PlanRuns.{first_of}
use Rattle.sel_gather.proofs.lists.run_of_row.Goals as goal

pub returns-in_default : goal.returns-in_default
returns-in_default c =
    let r = c.args.run in
    let is = subst (λ o. unrolled c.nulls_of.result ≡ item_picks c.args.sources.now c.args.width (first_of o (r.start + c.args.i))) (sym c.in_default.is) (ap unrolled c.nulls_of.ensures) in
    let h = row_items c.args.sources.now c.requires.lists c.requires.formed r c.args.i c.requires.inside c.requires.fits c.args.width c.nulls_of.result is in
    record { items = h.0; fits = h.1; small = search rules }

pub overflow_add-run : goal.overflow_add-run
overflow_add-run c =
    let there = row_inside c.args.sources.now c.requires.lists c.requires.formed c.args.run c.args.i c.requires.inside c.requires.fits c.in-Some.source c.in-Some.is in
    record { fits = near_at c.args.sources.now c.in-Some.source (c.args.run.start + c.args.i) c.requires.formed there }

pub run_of_list-requires-clause-fits : goal.run_of_list-requires-clause-fits
run_of_list-requires-clause-fits c =
    row_inside c.args.sources.now c.requires.lists c.requires.formed c.args.run c.args.i c.requires.inside c.requires.fits c.in-Some.source c.in-Some.is

pub returns : goal.returns
returns c =
    let r = c.args.run in
    let list = c.run_of_list.result in
    let is = subst (λ o. unrolled list ≡ item_picks c.args.sources.now c.args.width (first_of o (r.start + c.args.i))) (sym c.in-Some.is) c.run_of_list.ensures in
    let h = row_items c.args.sources.now c.requires.lists c.requires.formed r c.args.i c.requires.inside c.requires.fits c.args.width list is in
    record { items = h.0; fits = h.1; small = search rules }
