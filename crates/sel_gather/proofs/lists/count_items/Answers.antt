use Rattle.sel_gather.proofs.Common.{◌∙◌, arith, length, ap, length-append, take, Null, joined_items, pick, PickFits, expand, unrolled}
use Rattle.sel_runs.proofs.RunLists.{all_at, room_at, length_more, run_at}
use Rattle.sel_gather.proofs.ItemRuns.{rows_of, joined_run, all_runs}
use Rattle.sel_gather.proofs.lists.count_items.Goals as goal

pub count_run-total-requires-clause-fits : goal.count_run-total-requires-clause-fits
count_run-total-requires-clause-fits c = all_at (PickFits (rows_of c.args.sources.now)) c.args.runs.now c.loop-run.run-index c.loop-run-test.true c.requires.fits

pub overflow_add-total : goal.overflow_add-total
overflow_add-total c = omega (arith, room_at c.args.runs.now c.loop-run.run-index c.loop-run-test.true, c.count_run-total.ensures.small, c.loop-run.invariant.1, c.requires.few)

pub loop-run-preserved : goal.loop-run-preserved
loop-run-preserved c =
    let xss = rows_of c.args.sources.now in
    let runs = c.args.runs.now in
    let i = c.loop-run.run-index in
    let w = c.args.width in
    let more = ap length (joined_run w xss runs i c.loop-run-test.true)
    ∙ length-append (joined_items w (pick Null xss (expand (take i runs)))) (joined_items w (pick Null xss (unrolled (run_at runs i)))) in (
      omega (arith, more, c.count_run-total.ensures.count, c.loop-run.invariant.0),
      omega (arith, length_more runs i c.loop-run-test.true, c.count_run-total.ensures.small, c.loop-run.invariant.1),
    )

pub returns : goal.returns
returns c =
    c.loop-run.invariant.0 ∙ all_runs (λ ps. length (joined_items c.args.width (pick Null (rows_of c.args.sources.now) ps))) c.args.runs.now c.loop-run.run-index c.loop-run-test.false
