-- `of_loose` moves two fields, and with them what they own.
use Rattle.sel_ffi.proofs.HandleShared.{of_loose}
use Rattle.sel_c.proofs.Handles.{selections}
use Rattle.sel_c.proofs.calls.selection_handle.SelectionHandle.of_loose.{Statement.statement, Code.unfolded}

pub of_loose_spec : {M : Type 1} → statement M
of_loose_spec 𝓤 𝓛 𝓜 𝓡 wired = of_loose 𝓛 𝓜 𝓡 selections _ (unfolded 𝓤 𝓛.H 𝓜 𝓡 wired)
