-- `into_loose` distinguishes the null pointer, which owns nothing, from a box.
use Rattle.sel_ffi.proofs.HandleShared.{into_loose}
use Rattle.sel_ffi.proofs.{BufferHandles.buffers, buffer_handle.BufferHandle.into_loose.Statement.statement, buffer_handle.BufferHandle.into_loose.Code.unfolded}

pub into_loose_spec : {M : Type 1} → statement M
into_loose_spec 𝓤 𝓛 𝓜 𝓡 wired = into_loose 𝓛 𝓜 𝓡 buffers _ (unfolded 𝓤 𝓛.H 𝓜 𝓡 wired)
