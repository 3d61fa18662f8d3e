-- A handle may be sent to another thread, with its buffer.
use denote.Param.Send.{IsSend}
use Rattle.sel_ffi.proofs.Crossing.{handle_send}
use Rattle.sel_ffi.{proofs.BufferHandles.buffers, proofs.shared_buffer.SharedBuffer.TheSendSync.the_send, specs.contracts.buffer_handle.BufferHandle.the_row}

pub send : IsSend the_row
send = handle_send buffers the_send
