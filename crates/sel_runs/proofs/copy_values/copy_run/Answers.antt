use Rattle.sel_runs.proofs.Common.{◌++◌, ◌∙◌, length, map, ap, sym, arith, length-map, on_ok_weaker}
use Rattle.sel_runs.proofs.Mapped.{source_rows}
use Rattle.sel_runs.proofs.RunLists.{pick_nulls, pick_run, run_there}
use Rattle.sel_runs.proofs.copy_values.copy_run.Goals as goal

pub bounds-parts-source : goal.bounds-parts-source
bounds-parts-source g c =
    let there = run_there (map (λ s. s.values.now) c.args.parts.now) c.args.run c.in-Some.source c.in-Some.is c.if-run-eq0.false c.requires.fits in
    omega (arith, there.0, length-map c.args.parts.now (λ s. s.values.now))

pub copy_part-requires : goal.copy_part-requires
copy_part-requires g c =
    let part = c.index-parts-source.result in
    let there = run_there (map (λ s. s.values.now) c.args.parts.now) c.args.run c.in-Some.source c.in-Some.is c.if-run-eq0.false c.requires.fits in
    let named = source_rows (λ s. s.values.now) c.args.parts.now c.in-Some.source part there.0 c.index-parts-source.is in
    omega (arith, there.1, ap length named)

pub returns-in-None-clause-values : goal.returns-in-None-clause-values
returns-in-None-clause-values g c =
    let xss = map (λ s. s.values.now) c.args.parts.now in
    on_ok_weaker c.push_values.result (λ is. is ∙ ap (λ l. c.args.values.now.items ++ l) (sym (pick_nulls c.args.zero xss c.args.run c.in-None.is))) c.push_values.ensures.items

pub returns-in-Some-clause-values : goal.returns-in-Some-clause-values
returns-in-Some-clause-values g c =
    let xss = map (λ s. s.values.now) c.args.parts.now in
    let part = c.index-parts-source.result in
    let there = run_there xss c.args.run c.in-Some.source c.in-Some.is c.if-run-eq0.false c.requires.fits in
    let named = source_rows (λ s. s.values.now) c.args.parts.now c.in-Some.source part there.0 c.index-parts-source.is in
    let run = pick_run c.args.zero xss c.args.run c.in-Some.source c.in-Some.is there.1 in
    on_ok_weaker c.copy_part.result (λ is. is ∙ ap (λ l. c.args.values.now.items ++ l) (sym (rw (← named) run))) c.copy_part.ensures.values
