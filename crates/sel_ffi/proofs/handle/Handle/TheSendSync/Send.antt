-- A handle may be sent to another thread, with its column.
use denote.Param.Send.{IsSend}
use Rattle.sel_ffi.{proofs.Crossing.handle_send, proofs.Crossing.shared_send, proofs.Handles.columns, specs.contracts.handle.Handle.the_row}

pub send : IsSend the_row
send = handle_send columns shared_send
