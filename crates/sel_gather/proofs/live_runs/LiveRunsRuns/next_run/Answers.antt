use Rattle.sel_gather.proofs.Common.{All-append, IsRow, unrolled}
use Rattle.sel_gather.proofs.{ItemPicks.fits_rows, ItemPicks.rows_fit_all, ItemRuns.rows_of}
use Rattle.sel_runs.proofs.RunLists.{All-left, All-right}
use Rattle.sel_gather.proofs.Common.{◌++◌, ◌∙◌, ap, append_assoc, cleared, map, map-append, sym}
use Rattle.sel_gather.proofs.live_runs.LiveRunsRuns.next_run.Goals as goal

pub split_live-requires-clause-fits : goal.split_live-requires-clause-fits
split_live-requires-clause-fits g c =
    let p = c.ready.new.self in
    rows_fit_all (rows_of p.sources.now) (unrolled p.run) (All-left (IsRow (rows_of p.sources.now)) (unrolled p.run) (g.P.Plan.picks p.rest) p.fits)

pub invariant_of-self-clause-fits : goal.invariant_of-self-clause-fits
invariant_of-self-clause-fits g c =
    let p = c.ready.new.self in
    let xss = rows_of p.sources.now in
    All-append (IsRow xss) (unrolled c.split_live.result.1) (g.P.Plan.picks p.rest) (fits_rows xss (unrolled c.split_live.result.1) c.split_live.ensures.fits)
    (All-right (IsRow xss) (unrolled p.run) (g.P.Plan.picks p.rest) p.fits)

pub returns-clause-picks : goal.returns-clause-picks
returns-clause-picks g c =
    let old = c.args.self.now in
    let p = c.ready.new.self in
    let rest = g.P.Plan.picks p.rest in
    let cl = cleared (rows_of p.sources.now) in
    let left = c.split_live.result.1 in
    ap (λ s. map (cleared (rows_of s.now)) (unrolled old.run ++ g.P.Plan.picks old.rest)) (sym c.ready.ensures.sources)
    ∙ ap (map cl) (sym c.ready.ensures.picks) ∙ map-append cl (unrolled p.run) rest ∙ ap (λ l. l ++ map cl rest) c.split_live.ensures.picks
    ∙ append_assoc (unrolled c.split_live.result.0) (map cl (unrolled left)) (map cl rest) ∙ ap (λ l. unrolled c.split_live.result.0 ++ l) (sym (map-append cl (unrolled left) rest))
