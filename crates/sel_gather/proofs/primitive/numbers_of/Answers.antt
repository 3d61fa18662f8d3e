use Rattle.sel_gather.proofs.Common.{ap, arith, map, rows, take_all, ◌∙◌}
use Rattle.sel_gather.proofs.primitive.numbers_of.Goals as goal

pub returns-clause-rows : goal.returns-clause-rows
returns-clause-rows g c =
    c.loop-source.invariant ∙ ap (map (λ s. rows s.now)) (take_all c.loop-source.source-index c.args.sources.now (omega (arith, c.loop-source-test.false)))
