-- `empty` owns nothing at the null pointer.
use Rattle.sel_ffi.proofs.{HandleShared.empty, Handles.columns, handle.Handle.empty.Statement.statement, handle.Handle.empty.Code.unfolded}

pub empty_spec : {M : Type 1} → statement M
empty_spec 𝓤 𝓛 𝓜 𝓡 wired = empty 𝓛 𝓜 𝓡 columns _ (unfolded 𝓤 𝓛.H 𝓜 𝓡 wired)
