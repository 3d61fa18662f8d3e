use Rattle.sel_gather.proofs.Common.{All, IfOk-weaker, Null, PickFits, ap, arith, boolean_rows, map, pick, rows, rules, subst, sym, ◌∙◌}
use Rattle.sel_runs.proofs.Mapped.{one_mapped, two_mapped}
use Rattle.sel_gather.proofs.boolean.gather_boolean.Goals as goal

pub gather_truths-requires : goal.gather_truths-requires
gather_truths-requires g c =
    let same = one_mapped (λ s. rows s.now) c.args.sources.now c.only-item.result (boolean_rows c.boolean_of.result.now) (omega (arith, c.in-len1.len_at_least)) (omega (arith, c.in-len1.len_below)) c.only-item.is (search rules) in
    subst (λ xss. All (PickFits xss) (g.P.Plan.picks c.args.plan.now)) (sym same) c.requires.fits

pub returns-in-len1-clause-rows : goal.returns-in-len1-clause-rows
returns-in-len1-clause-rows g c =
    let same = one_mapped (λ s. rows s.now) c.args.sources.now c.only-item.result (boolean_rows c.boolean_of.result.now) (omega (arith, c.in-len1.len_at_least)) (omega (arith, c.in-len1.len_below)) c.only-item.is (search rules) in
    IfOk-weaker c.gather_truths.result _ _ (λ v is. is ∙ ap (λ xss. pick Null xss (g.P.Plan.picks c.args.plan.now)) same) c.gather_truths.ensures.rows

pub returns-in-len1-clause-dtype : goal.returns-in-len1-clause-dtype
returns-in-len1-clause-dtype g c =
    c.gather_truths.ensures.dtype

pub returns-in-len1-clause-formed : goal.returns-in-len1-clause-formed
returns-in-len1-clause-formed g c =
    c.gather_truths.ensures.formed

pub returns-in-len1-clause-refusal : goal.returns-in-len1-clause-refusal
returns-in-len1-clause-refusal g c =
    c.gather_truths.ensures.refusal

pub gather_truths-requires-in-len2 : goal.gather_truths-requires-in-len2
gather_truths-requires-in-len2 g c =
    let same = two_mapped (λ s. rows s.now) c.args.sources.now c.one-item.result c.other-item.result (boolean_rows c.boolean_of-in-len2.result.now) (boolean_rows c.boolean_of-in-len2-2.result.now) (omega (arith, c.in-len2.len_at_least)) (omega (arith, c.in-len2.len_below)) c.one-item.is c.other-item.is (search rules) (search rules) in
    subst (λ xss. All (PickFits xss) (g.P.Plan.picks c.args.plan.now)) (sym same) c.requires.fits

pub returns-in-len2-clause-rows : goal.returns-in-len2-clause-rows
returns-in-len2-clause-rows g c =
    let same = two_mapped (λ s. rows s.now) c.args.sources.now c.one-item.result c.other-item.result (boolean_rows c.boolean_of-in-len2.result.now) (boolean_rows c.boolean_of-in-len2-2.result.now) (omega (arith, c.in-len2.len_at_least)) (omega (arith, c.in-len2.len_below)) c.one-item.is c.other-item.is (search rules) (search rules) in
    IfOk-weaker c.gather_truths-in-len2.result _ _ (λ v is. is ∙ ap (λ xss. pick Null xss (g.P.Plan.picks c.args.plan.now)) same) c.gather_truths-in-len2.ensures.rows

pub returns-in-len2-clause-dtype : goal.returns-in-len2-clause-dtype
returns-in-len2-clause-dtype g c =
    c.gather_truths-in-len2.ensures.dtype

pub returns-in-len2-clause-formed : goal.returns-in-len2-clause-formed
returns-in-len2-clause-formed g c =
    c.gather_truths-in-len2.ensures.formed

pub returns-in-len2-clause-refusal : goal.returns-in-len2-clause-refusal
returns-in-len2-clause-refusal g c =
    c.gather_truths-in-len2.ensures.refusal

pub gather_truths-requires-2 : goal.gather_truths-requires-2
gather_truths-requires-2 g c =
    let same = ap (map (λ s. boolean_rows s.now)) c.deref.ensures.value ∙ c.in_ok-arrays.ensures.rows in
    subst (λ xss. All (PickFits xss) (g.P.Plan.picks c.args.plan.now)) (sym same) c.requires.fits

pub returns-clause-rows : goal.returns-clause-rows
returns-clause-rows g c =
    let same = ap (map (λ s. boolean_rows s.now)) c.deref.ensures.value ∙ c.in_ok-arrays.ensures.rows in
    IfOk-weaker c.gather_truths-2.result _ _ (λ v is. is ∙ ap (λ xss. pick Null xss (g.P.Plan.picks c.args.plan.now)) same) c.gather_truths-2.ensures.rows

pub returns-clause-dtype : goal.returns-clause-dtype
returns-clause-dtype g c =
    c.gather_truths-2.ensures.dtype

pub returns-clause-formed : goal.returns-clause-formed
returns-clause-formed g c =
    c.gather_truths-2.ensures.formed

pub returns-clause-refusal : goal.returns-clause-refusal
returns-clause-refusal g c =
    c.gather_truths-2.ensures.refusal
