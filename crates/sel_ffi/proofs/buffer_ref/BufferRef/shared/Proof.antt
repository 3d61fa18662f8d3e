-- `shared` reads the pointer field, compares it with null, and returns a `&` to the buffer for the lifetime of the `&BufferRef`.
use Rattle.sel_ffi.proofs.RefShared.{shared}
use Rattle.sel_ffi.proofs.buffer_ref.BufferRef.shared.{Statement.statement, Code.unfolded}
use Rattle.sel_ffi.proofs.shared_buffer.SharedBuffer.TheLaws as laws
use Rattle.sel_ffi.specs.contracts.buffer_ref.BufferRef as reference

pub shared_spec : {M : Type 1} → statement M
shared_spec 𝓤 𝓛 𝓜 𝓡 wired = shared 𝓛 𝓜 𝓡 laws.the_row_laws reference.the_type (λ r. r.at) (λ r. r.buffer) _ _ _ _ _ (unfolded 𝓤 𝓛.H 𝓜 𝓡 wired)
