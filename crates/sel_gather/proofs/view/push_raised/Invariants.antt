use Rattle.sel_gather.proofs.Common.{◌≡◌, ◌++◌, map, take, drop, raised}
use Rattle.sel_gather.proofs.view.push_raised.Given as goal

abbrev pub invariant-loop-i : goal.invariant-loop-i
invariant-loop-i l = l.views.items ≡ l.initial.views.items ++ map (λ v. raised v l.before) (take l.i (drop l.start l.from.views))
