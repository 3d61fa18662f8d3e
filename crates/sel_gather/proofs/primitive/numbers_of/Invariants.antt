use Rattle.sel_gather.proofs.Common.{◌≡◌, take, map, option_copied, number_rows, rows}
use Rattle.sel_gather.proofs.primitive.numbers_of.Given as goal

abbrev pub invariant-loop-source : goal.invariant-loop-source
invariant-loop-source g l = map (λ s. number_rows g.T.NativeType.number s.values.now (option_copied s.validity)) l.found.items ≡ map (λ c. rows c.now) (take l.source-index l.sources)
