-- A handle may be sent to another thread, with its selection.
use denote.Param.Send.{IsSend}
use Rattle.sel_ffi.proofs.Crossing.{handle_send}
use Rattle.sel_c.{proofs.Handles.selections, specs.contracts.calls.selection_handle.SelectionHandle.the_row}
use Rattle.sel_kernels.proofs.filter.selection.Selection.TheSendSync.{the_send}

pub send : IsSend the_row
send = handle_send selections the_send
