use Rattle.sel_gather.proofs.Common.{◌≡◌, All, take, type_of}
use Rattle.sel_gather.proofs.checks.are_alike.Given as goal

abbrev pub invariant-loop-source : goal.invariant-loop-source
invariant-loop-source l = All (λ c. type_of c.now ≡ type_of l.first.now) (take l.source-index l.sources)
