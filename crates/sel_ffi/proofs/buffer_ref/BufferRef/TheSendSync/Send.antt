-- A `BufferRef` may be sent to another thread.
use denote.Param.Send.{IsSend}
use Rattle.sel_ffi.proofs.Crossing.{ref_send}
use Rattle.sel_ffi.proofs.shared_buffer.SharedBuffer.TheSendSync.{the_sync}
use Rattle.sel_ffi.specs.contracts.buffer_ref.BufferRef.{the_type, the_row}

pub send : IsSend the_row
send = ref_send the_type (λ r. r.at) (λ r. r.buffer) the_sync
