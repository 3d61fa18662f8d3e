use Rattle.sel_gather.proofs.Common.{All, take, map, rows, PickFits}
use Rattle.sel_gather.proofs.checks.picks_in_bounds.Given as goal

abbrev pub invariant-loop-pick : goal.invariant-loop-pick
invariant-loop-pick l = All (PickFits (map (λ c. rows c.now) l.sources)) (take l.pick-index l.picks)
