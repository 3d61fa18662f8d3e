-- `of_loose` moves two fields, and with them what they own.
use Rattle.sel_ffi.proofs.HandleShared.{of_loose}
use Rattle.sel_ffi.proofs.{BufferHandles.buffers, buffer_handle.BufferHandle.of_loose.Statement.statement, buffer_handle.BufferHandle.of_loose.Code.unfolded}

pub of_loose_spec : {M : Type 1} → statement M
of_loose_spec 𝓤 𝓛 𝓜 𝓡 wired = of_loose 𝓛 𝓜 𝓡 buffers _ (unfolded 𝓤 𝓛.H 𝓜 𝓡 wired)
