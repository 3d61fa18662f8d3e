use Rattle.sel_gather.proofs.Common.{All, HasBit, IfOk-weaker, Some, ap, arith, bits_found, map, option_copied, rules, subst, sym, ◌∙◌}
use Rattle.sel_runs.proofs.Mapped.{one_mapped, two_mapped}
use Rattle.sel_gather.proofs.boolean.truths_of.Goals as goal

pub gather_bits-requires : goal.gather_bits-requires
gather_bits-requires g c =
    let same = one_mapped (λ s. Some s.now.values) c.args.arrays.now c.only-item.result (Some c.only-item.result.now.values) (omega (arith, c.in-len1.len_at_least)) (omega (arith, c.in-len1.len_below)) c.only-item.is (search rules) in
    subst (λ vs. All (HasBit vs) (g.P.Plan.picks c.args.plan.now)) (sym same) c.requires

pub returns-in-len1-clause-bits : goal.returns-in-len1-clause-bits
returns-in-len1-clause-bits g c =
    let same = one_mapped (λ s. Some s.now.values) c.args.arrays.now c.only-item.result (Some c.only-item.result.now.values) (omega (arith, c.in-len1.len_at_least)) (omega (arith, c.in-len1.len_below)) c.only-item.is (search rules) in
    IfOk-weaker c.gather_bits.result _ _ (λ v is. is ∙ ap (λ vs. bits_found vs (g.P.Plan.picks c.args.plan.now)) same) c.gather_bits.ensures.bits

pub returns-in-len1-clause-refusal : goal.returns-in-len1-clause-refusal
returns-in-len1-clause-refusal g c =
    c.gather_bits.ensures.refusal

pub gather_bits-requires-in-len2 : goal.gather_bits-requires-in-len2
gather_bits-requires-in-len2 g c =
    let same = two_mapped (λ s. Some s.now.values) c.args.arrays.now c.one-item.result c.other-item.result (Some c.one-item.result.now.values) (Some c.other-item.result.now.values) (omega (arith, c.in-len2.len_at_least)) (omega (arith, c.in-len2.len_below)) c.one-item.is c.other-item.is (search rules) (search rules) in
    subst (λ vs. All (HasBit vs) (g.P.Plan.picks c.args.plan.now)) (sym same) c.requires

pub returns-in-len2-clause-bits : goal.returns-in-len2-clause-bits
returns-in-len2-clause-bits g c =
    let same = two_mapped (λ s. Some s.now.values) c.args.arrays.now c.one-item.result c.other-item.result (Some c.one-item.result.now.values) (Some c.other-item.result.now.values) (omega (arith, c.in-len2.len_at_least)) (omega (arith, c.in-len2.len_below)) c.one-item.is c.other-item.is (search rules) (search rules) in
    IfOk-weaker c.gather_bits-in-len2.result _ _ (λ v is. is ∙ ap (λ vs. bits_found vs (g.P.Plan.picks c.args.plan.now)) same) c.gather_bits-in-len2.ensures.bits

pub returns-in-len2-clause-refusal : goal.returns-in-len2-clause-refusal
returns-in-len2-clause-refusal g c =
    c.gather_bits-in-len2.ensures.refusal

pub gather_bits-requires-2 : goal.gather_bits-requires-2
gather_bits-requires-2 g c =
    let same = ap (map option_copied) c.deref.ensures.value ∙ c.in_ok-maps.ensures.maps in
    subst (λ vs. All (HasBit vs) (g.P.Plan.picks c.args.plan.now)) (sym same) c.requires

pub returns-clause-bits : goal.returns-clause-bits
returns-clause-bits g c =
    let same = ap (map option_copied) c.deref.ensures.value ∙ c.in_ok-maps.ensures.maps in
    IfOk-weaker c.gather_bits-2.result _ _ (λ v is. is ∙ ap (λ vs. bits_found vs (g.P.Plan.picks c.args.plan.now)) same) c.gather_bits-2.ensures.bits

pub returns-clause-refusal : goal.returns-clause-refusal
returns-clause-refusal g c =
    c.gather_bits-2.ensures.refusal
