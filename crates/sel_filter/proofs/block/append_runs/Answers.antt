use Rattle.sel_filter.proofs.Common.{◌≡◌, ◌+◌, ◌-◌, ◌/◌, ◌^◌, ◌++◌, ◌∙◌, take, drop, ap, arith, trailing_zeros, w64}
use Rattle.sel_filter.proofs.{Running.run_of, Running.running_next, Running.shifted_away, RunFiltering.begins_more}
use Rattle.sel_filter.proofs.block.append_runs.Goals as goal

pub loop-rest-preserved : goal.loop-rest-preserved
loop-rest-preserved g c =
    let block = c.args.block.now in
    let rest = c.loop-rest.rest in
    let t = trailing_zeros w64 rest in
    let r = c.trailing_ones-run.result in
    let at = c.loop-rest.at + t in
    let run = run_of rest r (omega arith) c.loop-rest.auto.rest-fits.fits c.trailing_ones-run.ensures in
    let back : at + r - at ≡ r = omega arith in
    let appended = c.in_ok-extend_from_slice.ensures.items ∙ ap (λ k. c.loop-rest.out.items ++ take k (drop at block)) back in
    rw (appended, shifted_away (rest / 2 ^ t) r run.some) (record {
      begun = begins_more c.args.out.now.items c.loop-rest.out.items (take r (drop at block)) c.loop-rest.invariant.begun;
      running = running_next block _ _ c.loop-rest.at rest _ _ run c.loop-rest.invariant.running;
    })
