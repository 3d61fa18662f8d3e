use Rattle.sel_gather.proofs.{Common.map, Common.rows, Common.PickFits, Fits.all_more, Fits.run_refused, Fits.runs_done}
use Rattle.sel_gather.proofs.checks.runs_fit.Goals as goal

pub returns-then-not-run_fits : goal.returns-then-not-run_fits
returns-then-not-run_fits c =
    run_refused (PickFits (map (λ s. rows s.now) c.args.sources.now)) c.args.runs.now c.loop-run.run-index c.run_fits.result c.loop-run-test.true c.run_fits.ensures c.if-not-run_fits.true

pub loop-run-preserved : goal.loop-run-preserved
loop-run-preserved c =
    all_more (PickFits (map (λ s. rows s.now) c.args.sources.now)) c.args.runs.now c.loop-run.run-index c.loop-run-test.true c.loop-run.invariant (c.run_fits.ensures.0 c.if-not-run_fits.false)

pub returns : goal.returns
returns c = runs_done (PickFits (map (λ s. rows s.now) c.args.sources.now)) c.args.runs.now c.loop-run.run-index c.loop-run-test.false c.loop-run.invariant
