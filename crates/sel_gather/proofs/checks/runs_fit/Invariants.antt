use Rattle.sel_gather.proofs.Common.{All, take, map, rows, PickFits, expand}
use Rattle.sel_gather.proofs.checks.runs_fit.Given as goal

abbrev pub invariant-loop-run : goal.invariant-loop-run
invariant-loop-run l = All (PickFits (map (λ c. rows c.now) l.sources)) (expand (take l.run-index l.runs))
