use Rattle.sel_gather.proofs.Common.{◌≡◌, ◌++◌, take, Null, pick, expand}
use Rattle.sel_gather.proofs.growable.extend_runs.Given as goal

abbrev pub invariant-loop-run : goal.invariant-loop-run
invariant-loop-run g l =
    let G = g.G.Growable in
    (G.sources l.growable ≡ G.sources l.initial.growable) × (G.grown l.growable ≡ G.grown l.initial.growable ++ pick Null (G.sources l.initial.growable) (expand (take l.run-index l.runs)))
