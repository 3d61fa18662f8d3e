use Rattle.sel_gather.proofs.Common.{◌∙◌, ◌≤◌, ◌+◌, ap, arith, sym, subst, map, take, take_all, take-map, unrolled, binary_rows, Null, IsLive, GrewBy, bytes_needed, pick, PickFits}
use Rattle.sel_runs.proofs.Walks.{picked_run, run_all, run_behind, run_within}
use Rattle.sel_gather.proofs.JoinedRows.{grew_length, grew_more, grew_none, needed-append, needed_part}
use Rattle.sel_runs.proofs.Gathers.{left_all}
use Rattle.sel_gather.proofs.binary.push_runs.Goals as goal

pub loop-at-init : goal.loop-at-init
loop-at-init g c = record { rest = c.again-rest.ensures; within = omega arith; grew = grew_none c.args.joined.now }

pub push_run-requires : goal.push_run-requires
push_run-requires g c =
    let xss = map (λ s. binary_rows s.now) c.args.sources.now in
    let ps = g.R.Runs.picks c.args.runs.now in
    let left = g.R.Runs.picks c.loop-at.rest in
    let run = c.next_run-run.result in
    let at = c.loop-at.at in
    let before = pick Null xss (take at ps) in
    let more = picked_run ps left _ run at c.loop-at.invariant.rest c.next_run-run.ensures.picks Null xss in
    let need = ap bytes_needed more ∙ needed-append before (pick Null xss (unrolled run)) in
    let most : bytes_needed (pick Null xss (take (at + run.len) ps)) ≤ bytes_needed (pick Null xss ps) = rw (← take-map) (needed_part (pick Null xss ps) (at + run.len)) in
    record {
      fits = run_all (PickFits xss) left _ run c.next_run-run.ensures.picks (left_all (PickFits xss) ps left at c.loop-at.invariant.rest c.requires.fits);
      live = run_all (IsLive xss) left _ run c.next_run-run.ensures.picks (left_all (IsLive xss) ps left at c.loop-at.invariant.rest c.requires.live);
      room = omega (arith, grew_length before c.args.joined.now c.loop-at.joined c.loop-at.invariant.grew, need, most, c.requires.room);
    }

pub loop-at-preserved : goal.loop-at-preserved
loop-at-preserved g c =
    let xss = map (λ s. binary_rows s.now) c.args.sources.now in
    let ps = g.R.Runs.picks c.args.runs.now in
    let left = g.R.Runs.picks c.loop-at.rest in
    let run = c.next_run-run.result in
    let at = c.loop-at.at in
    let inside = run_within ps left _ run at c.loop-at.invariant.rest c.next_run-run.ensures.picks (omega (arith, c.loop-at.invariant.within, c.requires.len)) in
    let more = picked_run ps left _ run at c.loop-at.invariant.rest c.next_run-run.ensures.picks Null xss in
    record {
      rest = run_behind ps left _ run at c.loop-at.invariant.rest c.next_run-run.ensures.picks;
      within = omega (arith, inside, c.requires.len);
      grew = subst (λ l. GrewBy l c.args.joined.now c.push_run.new.joined) (sym more)
          (grew_more (pick Null xss (take at ps)) (pick Null xss (unrolled run)) c.args.joined.now c.loop-at.joined c.push_run.new.joined c.loop-at.invariant.grew c.in_ok-push_run.ensures.rows);
    }

pub returns-clause-rows : goal.returns-clause-rows
returns-clause-rows g c =
    let xss = map (λ s. binary_rows s.now) c.args.sources.now in
    subst (λ ps. GrewBy (pick Null xss ps) c.args.joined.now c.loop-at.joined) (take_all c.loop-at.at (g.R.Runs.picks c.args.runs.now) (omega (arith, c.loop-at-test.false, c.requires.len))) c.loop-at.invariant.grew
