-- The sources so far are well-formed.
use Rattle.sel_gather.proofs.Common.{All, take, IsWellFormed}
use Rattle.sel_gather.proofs.checks.are_well_formed.Given as goal

abbrev pub invariant-loop-source : goal.invariant-loop-source
invariant-loop-source l = All (λ c. IsWellFormed c.now) (take l.source-index l.sources)
