-- A `SelectionRef` may be sent to another thread.
use denote.Param.Send.{IsSend}
use Rattle.sel_ffi.proofs.Crossing.{ref_send}
use Rattle.sel_kernels.proofs.filter.selection.Selection.TheSendSync.{the_sync}
use Rattle.sel_c.specs.contracts.calls.selection_ref.SelectionRef.{the_type, the_row}

pub send : IsSend the_row
send = ref_send the_type (λ r. r.at) (λ r. r.selection) the_sync
