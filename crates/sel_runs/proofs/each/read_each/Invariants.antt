-- The results for the items so far.
use Rattle.sel_runs.proofs.Common.{take}
use Rattle.std.specs.List.{AllZip}
use Rattle.sel_runs.proofs.each.read_each.Given as goal

abbrev pub invariant-loop-item : goal.invariant-loop-item
invariant-loop-item g l = AllZip (λ s t. goal.F-post g l.read s t) (take l.item-index l.items) l.found.items
