-- `shared` reads the pointer field, compares it with null, and returns a `&` to the column for the
-- lifetime of the `&ColumnRef`.
use Rattle.sel_ffi.proofs.{RefShared.shared, column_ref.ColumnRef.shared.Statement.statement, column_ref.ColumnRef.shared.Code.unfolded}
use Rattle.sel_ffi.proofs.shared_column.SharedColumn.TheLaws as laws
use Rattle.sel_ffi.specs.contracts.column_ref.ColumnRef as reference

pub shared_spec : {M : Type 1} → statement M
shared_spec 𝓤 𝓛 𝓜 𝓡 wired = shared 𝓛 𝓜 𝓡 laws.the_row_laws reference.the_type (λ r. r.at) (λ r. r.tree) _ _ _ _ _ (unfolded 𝓤 𝓛.H 𝓜 𝓡 wired)
