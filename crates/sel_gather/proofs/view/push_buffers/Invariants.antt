use Rattle.sel_gather.proofs.Common.{◌≡◌, ◌++◌, take}
use Rattle.sel_gather.proofs.view.push_buffers.Given as goal

abbrev pub invariant-loop-buffer : goal.invariant-loop-buffer
invariant-loop-buffer l = l.joined.items ≡ l.initial.joined.items ++ take l.buffer-index l.buffers
