-- Several threads may read through one `ColumnRef` at the same time.
use denote.Param.Send.{IsSync}
use Rattle.sel_ffi.proofs.Crossing.{ref_sync, shared_sync}
use Rattle.sel_ffi.specs.contracts.column_ref.ColumnRef.{the_type, the_row}

pub sync : IsSync the_row
sync = ref_sync the_type (λ r. r.at) (λ r. r.tree) shared_sync
