-- Several threads may read through one `BufferRef` at the same time.
use denote.Param.Send.{IsSync}
use Rattle.sel_ffi.proofs.Crossing.{ref_sync}
use Rattle.sel_ffi.proofs.shared_buffer.SharedBuffer.TheSendSync.{the_sync}
use Rattle.sel_ffi.specs.contracts.buffer_ref.BufferRef.{the_type, the_row}

pub sync : IsSync the_row
sync = ref_sync the_type (λ r. r.at) (λ r. r.buffer) the_sync
