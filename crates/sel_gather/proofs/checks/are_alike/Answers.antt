use Rattle.sel_gather.proofs.Common.{◌≡◌, All, subst, refl, ◌∙◌, take_all, All-more, type_of}
use Rattle.sel_gather.proofs.Fits.{first_type_is}
use Rattle.sel_gather.proofs.checks.are_alike.Goals as goal

pub loop-source-preserved : goal.loop-source-preserved
loop-source-preserved c =
    let same = c.same_dtype.ensures.0 c.if-not-same_dtype.false in
    All-more (λ s. type_of s.now ≡ type_of c.in-Some.first.now.now) c.args.sources.now c.loop-source.source-index c.source-item.result c.loop-source-test.true c.loop-source.invariant
    (subst (λ s. type_of s.now ≡ type_of c.in-Some.first.now.now) c.source-item.is same)

pub returns : goal.returns
returns c =
    let all = subst (All (λ s. type_of s.now ≡ type_of c.in-Some.first.now.now)) (take_all c.loop-source.source-index c.args.sources.now c.loop-source-test.false) c.loop-source.invariant in
    (λ yes k d below. all k d below ∙ first_type_is c.args.sources.now c.in-Some.first.now c.in-Some.ensures.value, λ alike. refl)
