use Rattle.sel_gather.proofs.Common.{All, subst, refl, sym, ◌∙◌, take_all, All-more, All-get_or, IsWellFormed}
use Rattle.sel_gather.proofs.checks.are_well_formed.Goals as goal

pub loop-source-preserved : goal.loop-source-preserved
loop-source-preserved c =
    let here = sym c.is_well_formed.ensures ∙ c.if-not-is_well_formed.false in
    All-more (λ s. IsWellFormed s.now) c.args.sources.now c.loop-source.source-index c.source-item.result c.loop-source-test.true c.loop-source.invariant (subst (λ s. IsWellFormed s.now) c.source-item.is here)

pub returns-then-not-is_well_formed : goal.returns-then-not-is_well_formed
returns-then-not-is_well_formed c = (
  λ never. absurd cc,
  λ all.
      let here = subst (λ s. IsWellFormed s.now) (sym c.source-item.is) (All-get_or (λ s. IsWellFormed s.now) c.args.sources.now c.loop-source.source-index c.source-item.result c.loop-source-test.true all) in
      sym c.if-not-is_well_formed.true ∙ c.is_well_formed.ensures ∙ here,
)

pub returns : goal.returns
returns c =
    let all = subst (All (λ s. IsWellFormed s.now)) (take_all c.loop-source.source-index c.args.sources.now c.loop-source-test.false) c.loop-source.invariant in
    (λ yes. all, λ formed. refl)
