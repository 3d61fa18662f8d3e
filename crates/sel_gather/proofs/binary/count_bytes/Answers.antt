use Rattle.sel_gather.proofs.Common.{◌∙◌, ap, arith, map, take, take_all, unrolled, binary_rows, Null, IsLive, bytes_needed, pick, PickFits}
use Rattle.sel_runs.proofs.Walks.{picked_run, run_all, run_behind, run_within}
use Rattle.sel_runs.proofs.Gathers.{left_all}
use Rattle.sel_gather.proofs.{JoinedRows.needed-append}
use Rattle.sel_gather.proofs.binary.count_bytes.Goals as goal

pub count_run-total-requires : goal.count_run-total-requires
count_run-total-requires g c =
    let xss = map (λ s. binary_rows s.now) c.args.sources.now in
    let ps = g.R.Runs.picks c.args.runs.now in
    let left = g.R.Runs.picks c.loop-at.rest in
    let at = c.loop-at.at in
    record {
      fits = run_all (PickFits xss) left _ c.next_run-run.result c.next_run-run.ensures.picks (left_all (PickFits xss) ps left at c.loop-at.invariant.rest c.requires.fits);
      live = run_all (IsLive xss) left _ c.next_run-run.result c.next_run-run.ensures.picks (left_all (IsLive xss) ps left at c.loop-at.invariant.rest c.requires.live);
    }

pub loop-at-preserved : goal.loop-at-preserved
loop-at-preserved g c =
    let xss = map (λ s. binary_rows s.now) c.args.sources.now in
    let ps = g.R.Runs.picks c.args.runs.now in
    let left = g.R.Runs.picks c.loop-at.rest in
    let run = c.next_run-run.result in
    let at = c.loop-at.at in
    let inside = run_within ps left _ run at c.loop-at.invariant.rest c.next_run-run.ensures.picks (omega (arith, c.loop-at.invariant.within, c.requires.len)) in
    let more = ap bytes_needed (picked_run ps left _ run at c.loop-at.invariant.rest c.next_run-run.ensures.picks Null xss) ∙ needed-append (pick Null xss (take at ps)) (pick Null xss (unrolled run)) in
    record {
      rest = run_behind ps left _ run at c.loop-at.invariant.rest c.next_run-run.ensures.picks;
      within = omega (arith, inside, c.requires.len);
      bytes = omega (arith, more, c.count_run-total.ensures.count, c.loop-at.invariant.bytes);
      small = omega (arith, c.count_run-total.ensures.small, c.loop-at.invariant.small);
    }

pub returns : goal.returns
returns g c =
    let xss = map (λ s. binary_rows s.now) c.args.sources.now in
    c.loop-at.invariant.bytes ∙ ap (λ ps. bytes_needed (pick Null xss ps)) (take_all c.loop-at.at (g.R.Runs.picks c.args.runs.now) (omega (arith, c.loop-at-test.false, c.requires.len)))
