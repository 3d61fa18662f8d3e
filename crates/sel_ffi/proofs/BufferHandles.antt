-- `BufferHandle` as a struct that owns a box or nothing.
use Rattle.std.proofs.Common.{refl}
use Rattle.sel_ffi.proofs.HandleSteps.{Owner, owner}
use Rattle.sel_ffi.specs.contracts.shared_buffer.SharedBuffer as shared_buffer
use Rattle.sel_ffi.specs.contracts.buffer_handle.BufferHandle as handle

abbrev pub buffers : Owner shared_buffer.the_row
buffers = owner handle.the_type (λ h. (h.at, (h.alloc, h.buffer))) (λ x. record { at = x.0; alloc = x.1.0; buffer = x.1.1 }) (λ x. refl)
