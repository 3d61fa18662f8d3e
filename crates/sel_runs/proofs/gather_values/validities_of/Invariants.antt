use Rattle.sel_runs.proofs.Common.{◌≡◌, take, map, option_copied}
use Rattle.sel_runs.proofs.gather_values.validities_of.Given as goal

abbrev pub invariant-loop-part : goal.invariant-loop-part
invariant-loop-part g l = map option_copied l.maps.items ≡ map (λ s. option_copied s.validity) (take l.part-index l.parts)
