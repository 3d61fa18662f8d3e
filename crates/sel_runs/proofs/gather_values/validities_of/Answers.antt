use Rattle.sel_runs.proofs.Common.{[], ap, arith, map, map_more, map_push, option_copied, sym, take, take_all, ◌++◌, ◌∙◌, ◌∷◌}
use Rattle.sel_runs.specs.declared.part.Part.{Part}
use Rattle.sel_runs.proofs.gather_values.validities_of.Goals as goal

pub loop-part-preserved : goal.loop-part-preserved
loop-part-preserved g c =
    let parts = c.args.parts.now in
    let i = c.loop-part.part-index in
    let v = c.part-item.result.validity in
    let f = λ (s : Part g.row.T.Denot). option_copied s.validity in
    let more = map_more f parts i c.part-item.result c.loop-part-test.true ∙ ap (λ x. map f (take i parts) ++ f x ∷ []) (sym c.part-item.is) in
    ap (map option_copied) c.in_ok-push.ensures.items ∙ map_push option_copied c.loop-part.maps.items v ∙ ap (λ l. l ++ option_copied v ∷ []) c.loop-part.invariant ∙ sym more

pub returns-clause-maps : goal.returns-clause-maps
returns-clause-maps g c =
    c.loop-part.invariant ∙ ap (map (λ s. option_copied s.validity)) (take_all c.loop-part.part-index c.args.parts.now (omega (arith, c.loop-part-test.false)))
