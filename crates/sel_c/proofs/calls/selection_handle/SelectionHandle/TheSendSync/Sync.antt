-- A shared handle gives no access, so several threads may share it.
use denote.Param.Send.{IsSync}
use Rattle.sel_ffi.proofs.Crossing.{handle_sync}
use Rattle.sel_c.{proofs.Handles.selections, specs.contracts.calls.selection_handle.SelectionHandle.the_row}
use Rattle.sel_kernels.proofs.filter.selection.Selection.TheSendSync.{the_send}

pub sync : IsSync the_row
sync = handle_sync selections the_send
