use Rattle.sel_gather.proofs.Common.{◌∙◌, ap, sym, length, max_rows, Null, joined_items, pick, PickFits, expand}
use Rattle.sel_gather.proofs.ItemRuns.{rows_of, below_of, items_of_run, run_items_room, all_runs}
use Rattle.sel_runs.proofs.RunLists.{all_at, length-pick}
use Rattle.sel_gather.proofs.lists.child_runs.Goals as goal

pub push_items-requires-clause-fits : goal.push_items-requires-clause-fits
push_items-requires-clause-fits c = all_at (PickFits (rows_of c.args.sources.now)) c.args.runs.now c.loop-run.run-index c.loop-run-test.true c.requires.fits

pub push_items-requires-clause-room : goal.push_items-requires-clause-room
push_items-requires-clause-room c =
    let long = sym (length-pick Null (below_of c.args.sources.now) (expand c.loop-run.below.items)) ∙ ap length c.loop-run.invariant.0 in
    run_items_room c.args.width (rows_of c.args.sources.now) c.args.runs.now c.loop-run.run-index _ max_rows c.loop-run-test.true long c.requires.room

pub loop-run-preserved : goal.loop-run-preserved
loop-run-preserved c = (
  items_of_run c.args.width (below_of c.args.sources.now) (rows_of c.args.sources.now) c.args.runs.now c.loop-run.below.items c.push_items.new.below.items c.loop-run.run-index c.loop-run-test.true
      c.loop-run.invariant.0 c.in_ok-push_items.ensures.items,
  c.in_ok-push_items.ensures.sound,
)

pub returns-clause-items : goal.returns-clause-items
returns-clause-items c =
    c.loop-run.invariant.0 ∙ all_runs (λ ps. joined_items c.args.width (pick Null (rows_of c.args.sources.now) ps)) c.args.runs.now c.loop-run.run-index c.loop-run-test.false
