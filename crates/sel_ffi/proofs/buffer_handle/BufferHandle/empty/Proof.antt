-- `empty` owns nothing at the null pointer.
use Rattle.sel_ffi.proofs.HandleShared.{empty}
use Rattle.sel_ffi.proofs.{BufferHandles.buffers, buffer_handle.BufferHandle.empty.Statement.statement, buffer_handle.BufferHandle.empty.Code.unfolded}

pub empty_spec : {M : Type 1} → statement M
empty_spec 𝓤 𝓛 𝓜 𝓡 wired = empty 𝓛 𝓜 𝓡 buffers _ (unfolded 𝓤 𝓛.H 𝓜 𝓡 wired)
