-- A shared handle gives no access, so several threads may share it.
use denote.Param.Send.{IsSync}
use Rattle.sel_ffi.{proofs.Crossing.handle_sync, proofs.Crossing.shared_send, proofs.Handles.columns, specs.contracts.handle.Handle.the_row}

pub sync : IsSync the_row
sync = handle_sync columns shared_send
