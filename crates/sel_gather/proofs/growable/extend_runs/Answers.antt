use Rattle.sel_gather.proofs.Common.{◌++◌, All, List, length, take, ap, sym, subst, ◌∙◌, arith, refl, append_assoc, length-append, append-nil, take_all, Value}
use Rattle.sel_gather.proofs.Common.{Null, pick, PickFits, expand, unrolled}
use Rattle.sel_runs.proofs.RunLists.{all_at, room_at, pick_more, length-pick, run_at}
use Rattle.sel_gather.proofs.growable.extend_runs.Goals as goal

pub loop-run-init : goal.loop-run-init
loop-run-init g c = (refl, sym (append-nil (g.G.Growable.grown c.args.growable)))

pub extend_run-requires-clause-fits : goal.extend_run-requires-clause-fits
extend_run-requires-clause-fits g c =
    let runs = c.args.runs.now in
    let i = c.loop-run.run-index in
    subst (λ (xss : List (List Value)). All (PickFits xss) (unrolled (run_at runs i))) (sym c.loop-run.invariant.0)
    (all_at (PickFits (g.G.Growable.sources c.args.growable)) runs i c.loop-run-test.true c.requires.fits)

pub extend_run-requires-clause-room : goal.extend_run-requires-clause-room
extend_run-requires-clause-room g c =
    let runs = c.args.runs.now in
    let i = c.loop-run.run-index in
    let xss = g.G.Growable.sources c.args.growable in
    let so_far = pick Null xss (expand (take i runs)) in
    let long = ap length c.loop-run.invariant.1 ∙ length-append (g.G.Growable.grown c.args.growable) so_far in
    omega (arith, room_at runs i c.loop-run-test.true, long, length-pick Null xss (expand (take i runs)), c.requires.room)

pub loop-run-preserved : goal.loop-run-preserved
loop-run-preserved g c =
    let runs = c.args.runs.now in
    let i = c.loop-run.run-index in
    let old = g.G.Growable.grown c.args.growable in
    let xss = g.G.Growable.sources c.args.growable in
    let picks = unrolled (run_at runs i) in
    let so_far = pick Null xss (expand (take i runs)) in
    let grown =
    c.in_ok-growable.ensures.rows
    ∙ ap (λ (l : List Value). l ++ pick Null (g.G.Growable.sources c.loop-run.growable) picks) c.loop-run.invariant.1
    ∙ ap (λ (s : List (List Value)). (old ++ so_far) ++ pick Null s picks) c.loop-run.invariant.0
    ∙ append_assoc old so_far (pick Null xss picks)
    ∙ ap (λ (l : List Value). old ++ l) (sym (pick_more Null xss runs i c.loop-run-test.true)) in
    (c.in_ok-growable.ensures.sources ∙ c.loop-run.invariant.0, grown)

pub returns-clause-rows : goal.returns-clause-rows
returns-clause-rows g c =
    let runs = c.args.runs.now in
    let all = take_all c.loop-run.run-index runs (omega (arith, c.loop-run-test.false)) in
    c.loop-run.invariant.1 ∙ ap (λ rs. g.G.Growable.grown c.args.growable ++ pick Null (g.G.Growable.sources c.args.growable) (expand rs)) all

pub returns-clause-sources : goal.returns-clause-sources
returns-clause-sources g c = c.loop-run.invariant.0
