use Rattle.std.proofs.Common.{◌≡◌, take, map}
use Rattle.sel_ffi.proofs.views.buffers_of.Given as goal

abbrev pub invariant-loop-slice : goal.invariant-loop-slice
invariant-loop-slice l = l.buffers.items ≡ map (λ s. s.now) (take l.slice-index l.slices)
