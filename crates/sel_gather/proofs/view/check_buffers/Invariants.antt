use Rattle.sel_gather.proofs.Common.{◌≡◌, ◌≤◌, length, take, flat_map, max_buffers}
use Rattle.sel_gather.proofs.view.check_buffers.Given as goal

abbrev pub invariant-loop-source : goal.invariant-loop-source
invariant-loop-source l = (l.count ≡ length (flat_map (λ s. s.now.buffers) (take l.source-index l.sources))) × (l.count ≤ max_buffers)
