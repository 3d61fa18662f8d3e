use Rattle.sel_gather.proofs.Common.{◌∙◌, ◌++◌, ap, max_rows, Null, joined_items, pick, expand}
use Rattle.sel_gather.proofs.ItemRuns.{rows_of, below_of, items_more, items_room, pushed_fit, all_rows}
use Rattle.sel_gather.proofs.lists.push_items.Goals as goal

pub push_run-requires : goal.push_run-requires
push_run-requires c =
    items_room c.args.width (below_of c.args.sources.now) (rows_of c.args.sources.now) c.args.below.now.items c.loop-i.below.items c.args.run c.run_of_row.result c.loop-i.i max_rows c.loop-i-test.true
    c.loop-i.invariant.0 c.run_of_row.ensures.items c.requires.room

pub loop-i-preserved : goal.loop-i-preserved
loop-i-preserved c = (
  items_more c.args.width (below_of c.args.sources.now) (rows_of c.args.sources.now) c.args.below.now.items c.loop-i.below.items c.push_run.new.runs.items c.args.run c.run_of_row.result c.loop-i.i c.loop-i-test.true
      c.in_ok-push_run.ensures.picks c.loop-i.invariant.0 c.run_of_row.ensures.items,
  pushed_fit (below_of c.args.sources.now) c.loop-i.below.items c.push_run.new.runs.items c.run_of_row.result c.in_ok-push_run.ensures.picks c.loop-i.invariant.1 c.run_of_row.ensures.fits,
)

pub returns-clause-items : goal.returns-clause-items
returns-clause-items c =
    c.loop-i.invariant.0 ∙ ap (λ l. pick Null (below_of c.args.sources.now) (expand c.args.below.now.items) ++ l) (all_rows (joined_items c.args.width) (rows_of c.args.sources.now) c.args.run c.loop-i.i c.loop-i-test.false)
