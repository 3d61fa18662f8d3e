-- Loop invariant: the bytes of the buffers so far are less than 256.
use Rattle.std.proofs.Common.{◌≡◌, true, take}
use Rattle.sel_text.proofs.Common.{list_all, are_bytes}
use Rattle.sel_text.proofs.fit.law_buffers_fit.Given as goal

abbrev pub invariant-loop-buffer : goal.invariant-loop-buffer
invariant-loop-buffer l = list_all are_bytes (take l.buffer-index l.buffers) ≡ true
