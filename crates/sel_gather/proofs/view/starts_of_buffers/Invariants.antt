use Rattle.sel_gather.proofs.Common.{◌≡◌, length, map, take, flat_map, range_with_len}
use Rattle.sel_gather.proofs.view.starts_of_buffers.Given as goal

abbrev pub invariant-loop-source : goal.invariant-loop-source
invariant-loop-source l =
    (l.starts.items ≡ map (λ i. length (flat_map (λ s. s.now.buffers) (take i l.sources))) (range_with_len 0 l.source-index)) × (l.before ≡ length (flat_map (λ s. s.now.buffers) (take l.source-index l.sources)))
