use Rattle.sel_gather.proofs.Common.{◌∙◌, arith, length, joined_items}
use Rattle.sel_gather.proofs.ItemRuns.{rows_of, below_of, counted_row, all_rows}
use Rattle.sel_gather.proofs.lists.count_run.Goals as goal

pub loop-i-preserved : goal.loop-i-preserved
loop-i-preserved c = (
  counted_row c.args.width (below_of c.args.sources.now) (rows_of c.args.sources.now) c.args.run c.run_of_row.result c.loop-i.i c.loop-i.total c.loop-i-test.true c.run_of_row.ensures.items c.loop-i.invariant.0,
  omega (arith, c.loop-i.invariant.1, c.run_of_row.ensures.small),
)

pub returns-clause-count : goal.returns-clause-count
returns-clause-count c =
    c.loop-i.invariant.0 ∙ all_rows (λ l. length (joined_items c.args.width l)) (rows_of c.args.sources.now) c.args.run c.loop-i.i c.loop-i-test.false
