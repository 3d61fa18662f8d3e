use Rattle.sel_gather.proofs.Common.{◌++◌, ap, sym, ◌∙◌, IfOk-weaker, Null}
use Rattle.sel_runs.proofs.RunLists.{run_there, pick_run, pick_nulls}
use Rattle.sel_gather.proofs.growable.extend_run.Goals as goal

pub extend-requires-clause-source : goal.extend-requires-clause-source
extend-requires-clause-source g c = (run_there (g.G.Growable.sources c.args.growable) c.args.run c.in-Some.source c.in-Some.is c.if-run-eq0.false c.requires.fits).0

pub extend-requires-clause-inside : goal.extend-requires-clause-inside
extend-requires-clause-inside g c = (run_there (g.G.Growable.sources c.args.growable) c.args.run c.in-Some.source c.in-Some.is c.if-run-eq0.false c.requires.fits).1

pub returns-in-None-clause-rows : goal.returns-in-None-clause-rows
returns-in-None-clause-rows g c =
    let xss = g.G.Growable.sources c.args.growable in
    IfOk-weaker c.extend_nulls.result _ _ (λ longer is. is ∙ ap (λ l. g.G.Growable.grown c.args.growable ++ l) (sym (pick_nulls Null xss c.args.run c.in-None.is))) c.extend_nulls.ensures.rows

pub returns-in-Some-clause-rows : goal.returns-in-Some-clause-rows
returns-in-Some-clause-rows g c =
    let xss = g.G.Growable.sources c.args.growable in
    let there = run_there xss c.args.run c.in-Some.source c.in-Some.is c.if-run-eq0.false c.requires.fits in
    IfOk-weaker c.extend.result _ _ (λ longer is. is ∙ ap (λ l. g.G.Growable.grown c.args.growable ++ l) (sym (pick_run Null xss c.args.run c.in-Some.source c.in-Some.is there.1))) c.extend.ensures.rows
