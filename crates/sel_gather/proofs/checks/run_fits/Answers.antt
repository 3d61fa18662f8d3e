use Rattle.sel_gather.proofs.{Common.map, Common.rows, Fits.source_rows, Fits.run_fits_if, Fits.run_lost}
use Rattle.sel_gather.proofs.checks.run_fits.Goals as goal

pub returns-in-None-get : goal.returns-in-None-get
returns-in-None-get c = run_lost c.args.sources.now c.args.run c.in-Some.source c.in-Some.is c.if-run-eq0.false c.in-None-get.ensures.lookup.3

pub returns-in-Some-get : goal.returns-in-Some-get
returns-in-Some-get c =
    let found = c.in-Some-get.ensures.lookup in
    let long = source_rows c.args.sources.now c.in-Some.source c.len.result c.in-Some-get.column.now found.3.0 found.1 c.len.ensures.len in
    run_fits_if (map (λ s. rows s.now) c.args.sources.now) c.args.run c.in-Some.source c.len.result c.in-Some.is c.if-run-eq0.false long
