-- A shared handle gives no access, so several threads may share it.
use denote.Param.Send.{IsSync}
use Rattle.sel_ffi.proofs.Crossing.{handle_sync}
use Rattle.sel_ffi.{proofs.BufferHandles.buffers, proofs.shared_buffer.SharedBuffer.TheSendSync.the_send, specs.contracts.buffer_handle.BufferHandle.the_row}

pub sync : IsSync the_row
sync = handle_sync buffers the_send
