use Rattle.sel_gather.proofs.Common.{◌≡◌, ◌∙◌, ◌∷◌, [], All, None, ap, sym, subst, map, refl, arith, option_copied, IfOk-weaker, HasBit, bits_found}
use Rattle.sel_gather.proofs.{Walks.none_told, Walks.one_told, Walks.told_fits, Walks.told_picked, Walks.two_told}
use Rattle.sel_runs.proofs.Gathers.{all_none, all_there}
use Rattle.sel_gather.proofs.validity.gather_validity.Goals as goal

pub returns-in-len1-clause-bits : goal.returns-in-len1-clause-bits
returns-in-len1-clause-bits g c =
    let cs = c.args.sources.now in
    let v = option_copied c.validity.result in
    let told = one_told cs c.only-item.result v (omega (arith, c.in-len1.len_at_least)) (omega (arith, c.in-len1.len_below)) c.only-item.is c.validity.ensures in
    IfOk-weaker c.validity_at.result _ _ (λ bits is. is ∙ told_picked (v ∷ []) cs (g.P.Plan.picks c.args.plan.now) told c.requires.known c.requires.fits) c.validity_at.ensures.bits

pub validity_at-requires-in-len2 : goal.validity_at-requires-in-len2
validity_at-requires-in-len2 g c =
    let cs = c.args.sources.now in
    let v = option_copied c.validity-in-len2.result in
    let w = option_copied c.validity-in-len2-2.result in
    let told = two_told cs c.one-item.result c.other-item.result v w (omega (arith, c.in-len2.len_at_least)) (omega (arith, c.in-len2.len_below)) c.one-item.is c.other-item.is c.validity-in-len2.ensures c.validity-in-len2-2.ensures in
    told_fits (v ∷ w ∷ []) cs (g.P.Plan.picks c.args.plan.now) told c.requires.known c.requires.fits

pub returns-in-len2-clause-bits : goal.returns-in-len2-clause-bits
returns-in-len2-clause-bits g c =
    let cs = c.args.sources.now in
    let v = option_copied c.validity-in-len2.result in
    let w = option_copied c.validity-in-len2-2.result in
    let told = two_told cs c.one-item.result c.other-item.result v w (omega (arith, c.in-len2.len_at_least)) (omega (arith, c.in-len2.len_below)) c.one-item.is c.other-item.is c.validity-in-len2.ensures c.validity-in-len2-2.ensures in
    IfOk-weaker c.validity_at-in-len2.result _ _ (λ bits is. is ∙ told_picked (v ∷ w ∷ []) cs (g.P.Plan.picks c.args.plan.now) told c.requires.known c.requires.fits) c.validity_at-in-len2.ensures.bits

pub returns-then-not-has_validity-clause-bits : goal.returns-then-not-has_validity-clause-bits
returns-then-not-has_validity-clause-bits g c =
    let cs = c.args.sources.now in
    let ps = g.P.Plan.picks c.args.plan.now in
    let vs = map (λ c. None) cs in
    let none : All (λ v. v ≡ None) vs = all_none (λ c. None) cs (λ k d h. refl) in
    all_there vs ps none (c.has_nulls.ensures c.if-not-has_nulls.true) ∙ told_picked vs cs ps (none_told cs (c.has_validity.ensures c.if-not-has_validity.true)) c.requires.known c.requires.fits

pub validity_at-requires-2 : goal.validity_at-requires-2
validity_at-requires-2 g c =
    let ps = g.P.Plan.picks c.args.plan.now in
    let maps = ap (map option_copied) c.deref.ensures.value in
    subst (λ vs. All (HasBit vs) ps) (sym maps) (told_fits (map option_copied c.in_ok-maps.maps.items) c.args.sources.now ps c.in_ok-maps.ensures.told c.requires.known c.requires.fits)

pub returns-clause-bits : goal.returns-clause-bits
returns-clause-bits g c =
    let ps = g.P.Plan.picks c.args.plan.now in
    let told = told_picked (map option_copied c.in_ok-maps.maps.items) c.args.sources.now ps c.in_ok-maps.ensures.told c.requires.known c.requires.fits in
    IfOk-weaker c.validity_at-2.result _ _ (λ bits is. is ∙ ap (λ l. bits_found (map option_copied l) ps) c.deref.ensures.value ∙ told) c.validity_at-2.ensures.bits
