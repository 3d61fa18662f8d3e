use Rattle.sel_gather.proofs.Common.{◌≡◌, ◌∙◌, All, append-nil, arith, IsWellFormed, length-rows, option_copied, ap, PickFits, subst, sym, unrolled}
use Rattle.sel_gather.proofs.SplitRuns.{split_all, split_inside, bits_long, kept_first, whole_run, null_picks}
use Rattle.sel_gather.proofs.{ItemRuns.rows_of, ItemRuns.source_there, ListParts.few_rows}
use Rattle.sel_runs.proofs.RunLists.{All-right}
use Rattle.sel_gather.proofs.live_runs.split_live.Goals as goal

pub returns-in_default-clause-picks : goal.returns-in_default-clause-picks
returns-in_default-clause-picks c = sym (null_picks (rows_of c.args.sources.now) c.args.run c.in_default.is) ∙ sym (append-nil (unrolled c.args.run))

pub bounds-sources-source : goal.bounds-sources-source
bounds-sources-source c = source_there c.args.sources.now c.args.run c.in-Some.source 0 c.in-Some.is c.requires.fits c.requires.some

pub validity-requires : goal.validity-requires
validity-requires c =
    split_all c.args.sources.now c.args.run c.in-Some.source _ c.in-Some.is c.requires.fits (λ none. absurd (omega (arith, none, c.requires.some))) c.index-sources-source.is (λ x. IsWellFormed x.now) c.requires.formed

pub split_kept-requires-clause-inside : goal.split_kept-requires-clause-inside
split_kept-requires-clause-inside c =
    let cs = c.args.sources.now in
    let from = c.index-sources-source.result in
    let some : c.args.run.len ≡ 0 → ⊥ = λ none. absurd (omega (arith, none, c.requires.some)) in
    let long = bits_long cs c.args.run c.in-Some.source from c.in-Some.is c.requires.fits some c.index-sources-source.is c.requires.known _ c.validity.ensures c.in-Some-validity.bits.now (ap option_copied c.in-Some-validity.is) in
    omega (arith, long, split_inside cs c.args.run c.in-Some.source from c.in-Some.is c.requires.fits some c.index-sources-source.is)

pub split_kept-requires-clause-few : goal.split_kept-requires-clause-few
split_kept-requires-clause-few c =
    let cs = c.args.sources.now in
    let from = c.index-sources-source.result in
    let some : c.args.run.len ≡ 0 → ⊥ = λ none. absurd (omega (arith, none, c.requires.some)) in
    let long = bits_long cs c.args.run c.in-Some.source from c.in-Some.is c.requires.fits some c.index-sources-source.is c.requires.known _ c.validity.ensures c.in-Some-validity.bits.now (ap option_copied c.in-Some-validity.is) in
    let formed = split_all cs c.args.run c.in-Some.source from c.in-Some.is c.requires.fits some c.index-sources-source.is (λ x. IsWellFormed x.now) c.requires.formed in
    omega (arith, long, few_rows from.now formed, length-rows from.now)

pub returns-in-None-clause-picks : goal.returns-in-None-clause-picks
returns-in-None-clause-picks c =
    let some : c.args.run.len ≡ 0 → ⊥ = λ none. absurd (omega (arith, none, c.requires.some)) in
    sym (whole_run c.args.sources.now c.args.run c.in-Some.source c.index-sources-source.result c.in-Some.is c.requires.fits some c.index-sources-source.is c.requires.known _ c.validity.ensures (ap option_copied c.in-None.is))
    ∙ sym (append-nil (unrolled c.args.run))

pub returns-in-Some-validity-clause-picks : goal.returns-in-Some-validity-clause-picks
returns-in-Some-validity-clause-picks c =
    let some : c.args.run.len ≡ 0 → ⊥ = λ none. absurd (omega (arith, none, c.requires.some)) in
    kept_first c.args.sources.now c.args.run c.in-Some.source c.index-sources-source.result c.in-Some.is c.requires.fits some c.index-sources-source.is c.requires.known _ c.validity.ensures c.in-Some-validity.bits.now
    (ap option_copied c.in-Some-validity.is) c.split_kept.result.0 c.split_kept.result.1 c.split_kept.ensures.picks c.split_kept.ensures.source

pub returns-in-Some-validity-clause-fits : goal.returns-in-Some-validity-clause-fits
returns-in-Some-validity-clause-fits c = All-right (PickFits (rows_of c.args.sources.now)) _ (unrolled c.split_kept.result.1) (subst (All (PickFits (rows_of c.args.sources.now))) c.split_kept.ensures.rest c.requires.fits)
