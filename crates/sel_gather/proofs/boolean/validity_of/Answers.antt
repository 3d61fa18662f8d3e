use Rattle.sel_gather.proofs.Common.{All, HasBit, IfOk-weaker, ap, arith, bits_found, map, option_copied, rules, subst, sym, ◌∙◌}
use Rattle.sel_runs.proofs.Gathers.{all_none, all_there}
use Rattle.sel_runs.proofs.Mapped.{one_mapped, two_mapped}
use Rattle.sel_gather.proofs.boolean.validity_of.Goals as goal

pub returns-then-not-has_validity-clause-bits : goal.returns-then-not-has_validity-clause-bits
returns-then-not-has_validity-clause-bits g c =
    let arrays = c.args.arrays.now in
    all_there (map (λ s. s.now.validity) arrays) (g.P.Plan.picks c.args.plan.now) (all_none (λ s. s.now.validity) arrays (c.has_validity.ensures.0 c.if-not-has_validity.true)) (c.has_nulls.ensures c.if-not-has_nulls.true)

pub validity_at-requires : goal.validity_at-requires
validity_at-requires g c =
    let same = one_mapped (λ s. s.now.validity) c.args.arrays.now c.only-item.result (option_copied c.as_ref.result) (omega (arith, c.in-len1.len_at_least)) (omega (arith, c.in-len1.len_below)) c.only-item.is (search rules) in
    subst (λ vs. All (HasBit vs) (g.P.Plan.picks c.args.plan.now)) (sym same) c.requires

pub returns-in-len1-clause-bits : goal.returns-in-len1-clause-bits
returns-in-len1-clause-bits g c =
    let same = one_mapped (λ s. s.now.validity) c.args.arrays.now c.only-item.result (option_copied c.as_ref.result) (omega (arith, c.in-len1.len_at_least)) (omega (arith, c.in-len1.len_below)) c.only-item.is (search rules) in
    IfOk-weaker c.validity_at.result _ _ (λ v is. is ∙ ap (λ vs. bits_found vs (g.P.Plan.picks c.args.plan.now)) same) c.validity_at.ensures.bits

pub returns-in-len1-clause-covers : goal.returns-in-len1-clause-covers
returns-in-len1-clause-covers g c =
    c.validity_at.ensures.covers

pub returns-in-len1-clause-refusal : goal.returns-in-len1-clause-refusal
returns-in-len1-clause-refusal g c =
    c.validity_at.ensures.refusal

pub validity_at-requires-in-len2 : goal.validity_at-requires-in-len2
validity_at-requires-in-len2 g c =
    let same = two_mapped (λ s. s.now.validity) c.args.arrays.now c.one-item.result c.other-item.result (option_copied c.as_ref-in-len2.result) (option_copied c.as_ref-in-len2-2.result) (omega (arith, c.in-len2.len_at_least)) (omega (arith, c.in-len2.len_below)) c.one-item.is c.other-item.is (search rules) (search rules) in
    subst (λ vs. All (HasBit vs) (g.P.Plan.picks c.args.plan.now)) (sym same) c.requires

pub returns-in-len2-clause-bits : goal.returns-in-len2-clause-bits
returns-in-len2-clause-bits g c =
    let same = two_mapped (λ s. s.now.validity) c.args.arrays.now c.one-item.result c.other-item.result (option_copied c.as_ref-in-len2.result) (option_copied c.as_ref-in-len2-2.result) (omega (arith, c.in-len2.len_at_least)) (omega (arith, c.in-len2.len_below)) c.one-item.is c.other-item.is (search rules) (search rules) in
    IfOk-weaker c.validity_at-in-len2.result _ _ (λ v is. is ∙ ap (λ vs. bits_found vs (g.P.Plan.picks c.args.plan.now)) same) c.validity_at-in-len2.ensures.bits

pub returns-in-len2-clause-covers : goal.returns-in-len2-clause-covers
returns-in-len2-clause-covers g c =
    c.validity_at-in-len2.ensures.covers

pub returns-in-len2-clause-refusal : goal.returns-in-len2-clause-refusal
returns-in-len2-clause-refusal g c =
    c.validity_at-in-len2.ensures.refusal

pub validity_at-requires-2 : goal.validity_at-requires-2
validity_at-requires-2 g c =
    let same = ap (map option_copied) c.deref.ensures.value ∙ c.in_ok-maps.ensures.maps in
    subst (λ vs. All (HasBit vs) (g.P.Plan.picks c.args.plan.now)) (sym same) c.requires

pub returns-clause-bits : goal.returns-clause-bits
returns-clause-bits g c =
    let same = ap (map option_copied) c.deref.ensures.value ∙ c.in_ok-maps.ensures.maps in
    IfOk-weaker c.validity_at-2.result _ _ (λ v is. is ∙ ap (λ vs. bits_found vs (g.P.Plan.picks c.args.plan.now)) same) c.validity_at-2.ensures.bits

pub returns-clause-covers : goal.returns-clause-covers
returns-clause-covers g c =
    c.validity_at-2.ensures.covers

pub returns-clause-refusal : goal.returns-clause-refusal
returns-clause-refusal g c =
    c.validity_at-2.ensures.refusal
