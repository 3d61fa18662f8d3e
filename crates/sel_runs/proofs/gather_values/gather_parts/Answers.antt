use Rattle.sel_runs.proofs.Common.{map, length, ap, sym, ◌∙◌, option_copied, length-map, bit_found, bits_for}
use Rattle.sel_runs.proofs.Gathers.{all_there, all_none}
use Rattle.sel_runs.proofs.gather_values.gather_parts.Goals as goal

pub returns-then-not-is_any_hidden-clause-bits : goal.returns-then-not-is_any_hidden-clause-bits
returns-then-not-is_any_hidden-clause-bits g c =
    all_there (map (λ s. option_copied s.validity) c.args.parts.now) (g.P.Plan.picks c.args.plan.now)
    (all_none (λ s. option_copied s.validity) c.args.parts.now (c.is_any_hidden.ensures.0 c.if-not-is_any_hidden.true)) (c.has_nulls.ensures c.if-not-has_nulls.true)

pub validity_from-requires : goal.validity_from-requires
validity_from-requires g c =
    ap length c.in_ok-values-2.ensures.bits ∙ length-map (g.P.Plan.picks c.args.plan.now) (bit_found (map (λ s. option_copied s.validity) c.args.parts.now)) ∙ sym c.len-len.ensures.len

pub returns-clause-bits : goal.returns-clause-bits
returns-clause-bits g c =
    ap (λ n. bits_for n c.in_ok-validity.validity) (sym c.len-len.ensures.len) ∙ c.in_ok-validity.ensures.bits ∙ c.in_ok-values-2.ensures.bits
