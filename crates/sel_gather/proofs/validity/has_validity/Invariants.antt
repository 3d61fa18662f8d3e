-- The sources so far have no validity.
use Rattle.sel_gather.proofs.Common.{All, None, take, IsValidityOf, rows, type_of}
use Rattle.sel_gather.proofs.validity.has_validity.Given as goal

abbrev pub invariant-loop-source : goal.invariant-loop-source
invariant-loop-source l = All (λ c. IsValidityOf (type_of c.now) None (rows c.now)) (take l.source-index l.sources)
