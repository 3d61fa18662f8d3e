use Rattle.sel_runs.proofs.Common.{◌∙◌, ◌++◌, arith, ap, sym, length, map, take, length-take-le, map-append, take_all, found, pick, PickFits, unrolled}
use Rattle.sel_runs.proofs.Walks.{run_behind, run_within, run_all, taken_run}
use Rattle.sel_runs.proofs.Gathers.{left_all}
use Rattle.sel_runs.proofs.RunLists.{length-pick}
use Rattle.sel_runs.proofs.copy_values.copy_plan.Goals as goal

pub copy_run-requires-clause-fits : goal.copy_run-requires-clause-fits
copy_run-requires-clause-fits g c =
    let ps = g.P.Plan.picks c.args.plan.now in
    let fits = PickFits (map (λ s. s.values.now) c.args.parts.now) in
    let left = left_all fits ps (g.P.Plan.picks c.loop-at.rest) c.loop-at.at c.loop-at.invariant.rest c.requires in
    run_all fits (g.P.Plan.picks c.loop-at.rest) _ c.next_run-run.result c.next_run-run.ensures.picks left

pub copy_run-requires-clause-few : goal.copy_run-requires-clause-few
copy_run-requires-clause-few g c =
    let ps = g.P.Plan.picks c.args.plan.now in
    let xss = map (λ s. s.values.now) c.args.parts.now in
    let inside = run_within ps (g.P.Plan.picks c.loop-at.rest) _ c.next_run-run.result c.loop-at.at c.loop-at.invariant.rest c.next_run-run.ensures.picks (omega (arith, c.loop-at.invariant.within, c.len-len.ensures.len)) in
    let long = ap length c.loop-at.invariant.values ∙ length-pick c.args.zero xss (take c.loop-at.at ps) ∙ length-take-le c.loop-at.at ps (omega (arith, c.loop-at.invariant.within, c.len-len.ensures.len)) in
    omega (arith, long, inside, c.len-len.ensures.len, c.len-len.ensures.few)

pub loop-at-preserved : goal.loop-at-preserved
loop-at-preserved g c =
    let ps = g.P.Plan.picks c.args.plan.now in
    let left = g.P.Plan.picks c.loop-at.rest in
    let run = c.next_run-run.result in
    let xss = map (λ s. s.values.now) c.args.parts.now in
    let inside = run_within ps left _ run c.loop-at.at c.loop-at.invariant.rest c.next_run-run.ensures.picks (omega (arith, c.loop-at.invariant.within, c.len-len.ensures.len)) in
    let taken = taken_run ps left _ run c.loop-at.at c.loop-at.invariant.rest c.next_run-run.ensures.picks in
    record {
      rest = run_behind ps left _ run c.loop-at.at c.loop-at.invariant.rest c.next_run-run.ensures.picks;
      within = omega (arith, inside, c.len-len.ensures.len);
      room = omega (arith, c.loop-at.invariant.room, c.in_ok-copy_run.ensures.capacity);
      values = c.in_ok-copy_run.ensures.values ∙ ap (λ l. l ++ pick c.args.zero xss (unrolled run)) c.loop-at.invariant.values ∙ sym (ap (pick c.args.zero xss) taken ∙ map-append (found c.args.zero xss) (take c.loop-at.at ps) (unrolled run));
    }

pub returns-clause-values : goal.returns-clause-values
returns-clause-values g c =
    let ps = g.P.Plan.picks c.args.plan.now in
    c.loop-at.invariant.values ∙ ap (pick c.args.zero (map (λ s. s.values.now) c.args.parts.now)) (take_all c.loop-at.at ps (omega (arith, c.loop-at-test.false, c.len-len.ensures.len)))
