use Rattle.sel_gather.proofs.Common.{◌≡◌, take, flat_map}
use Rattle.sel_gather.proofs.view.joined_buffers.Given as goal

abbrev pub invariant-loop-source : goal.invariant-loop-source
invariant-loop-source l = l.joined.items ≡ flat_map (λ s. s.now.buffers) (take l.source-index l.sources)
