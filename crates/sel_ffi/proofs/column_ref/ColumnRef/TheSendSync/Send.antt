-- A `ColumnRef` may be sent to another thread.
use denote.Param.Send.{IsSend}
use Rattle.sel_ffi.proofs.Crossing.{ref_send, shared_sync}
use Rattle.sel_ffi.specs.contracts.column_ref.ColumnRef.{the_type, the_row}

pub send : IsSend the_row
send = ref_send the_type (λ r. r.at) (λ r. r.tree) shared_sync
