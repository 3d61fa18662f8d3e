-- `selection` reads the pointer field, compares it with null, and returns a `&` to the selection for the lifetime of the `&SelectionRef`.
use Rattle.sel_ffi.proofs.RefShared.{shared}
use Rattle.sel_c.proofs.calls.selection_ref.SelectionRef.selection.{Statement.statement, Code.unfolded}
use Rattle.sel_kernels.proofs.filter.selection.Selection.TheLaws as laws
use Rattle.sel_c.specs.contracts.calls.selection_ref.SelectionRef as reference

pub selection_spec : {M : Type 1} → statement M
selection_spec 𝓤 𝓛 𝓜 𝓡 wired = shared 𝓛 𝓜 𝓡 laws.the_row_laws reference.the_type (λ r. r.at) (λ r. r.selection) _ _ _ _ _ (unfolded 𝓤 𝓛.H 𝓜 𝓡 wired)
