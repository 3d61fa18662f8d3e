use Rattle.sel_filter.proofs.Common.{◌/◌, ◌^◌, refl, arith, trailing_zeros, w64}
use Rattle.sel_filter.proofs.Running.{run_inside, run_of, running_next, counts_next, counts_last, shifted_away, copies_left}
use Rattle.sel_filter.proofs.primitive.copy_runs.Goals as goal

pub overflow_add-at : goal.overflow_add-at
overflow_add-at g c = record { fits = omega (arith, run_inside _ _ _ _ _ _ (omega arith) c.loop-rest.auto.rest-fits.fits c.trailing_ones-run.ensures c.loop-rest.invariant.running, c.requires.fits) }

pub copy-requires-clause-inside : goal.copy-requires-clause-inside
copy-requires-clause-inside g c = rw c.loop-rest.invariant.source (run_inside _ _ _ _ _ _ (omega arith) c.loop-rest.auto.rest-fits.fits c.trailing_ones-run.ensures c.loop-rest.invariant.running)

pub copy-requires-clause-countable : goal.copy-requires-clause-countable
copy-requires-clause-countable g c =
    omega (arith, copies_left _ _ _ _ _ _ _ (run_of _ _ (omega arith) c.loop-rest.auto.rest-fits.fits c.trailing_ones-run.ensures) c.loop-rest.invariant.running _ c.loop-rest.out.copies c.loop-rest.invariant.counts, c.requires.counted)

pub overflow_add-at-in-loop-rest : goal.overflow_add-at-in-loop-rest
overflow_add-at-in-loop-rest g c = record { fits = omega (arith, run_inside _ _ _ _ _ _ (omega arith) c.loop-rest.auto.rest-fits.fits c.trailing_ones-run.ensures c.loop-rest.invariant.running, c.requires.fits) }

pub loop-rest-preserved : goal.loop-rest-preserved
loop-rest-preserved g c =
    let source = c.args.out.now.source in
    let at = c.loop-rest.at in
    let rest = c.loop-rest.rest in
    let run = run_of rest _ (omega arith) c.loop-rest.auto.rest-fits.fits c.trailing_ones-run.ensures in
    let was = c.loop-rest.invariant.running in
    rw (c.in_ok-copy.ensures.copied, c.loop-rest.invariant.source, shifted_away (rest / 2 ^ trailing_zeros w64 rest) c.trailing_ones-run.result run.some) (record {
      source = refl;
      running = running_next source _ _ at rest _ _ run was;
      counts = counts_next source _ _ at rest _ _ run was _ c.loop-rest.out.copies c.loop-rest.invariant.counts;
    })

pub returns-clause-counted : goal.returns-clause-counted
returns-clause-counted g c = counts_last c.args.out.now.source _ _ c.loop-rest.at c.loop-rest.rest (omega arith) c.loop-rest.invariant.counts
