-- `empty` owns nothing at the null pointer.
use Rattle.sel_ffi.proofs.HandleShared.{empty}
use Rattle.sel_c.proofs.Handles.{selections}
use Rattle.sel_c.proofs.calls.selection_handle.SelectionHandle.empty.{Statement.statement, Code.unfolded}

pub empty_spec : {M : Type 1} → statement M
empty_spec 𝓤 𝓛 𝓜 𝓡 wired = empty 𝓛 𝓜 𝓡 selections _ (unfolded 𝓤 𝓛.H 𝓜 𝓡 wired)
