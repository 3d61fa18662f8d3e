use Rattle.std.proofs.Common.{◌≡◌, true, take, map, All}
use Rattle.sel_ffi.specs.Buffers.{bytes_of}
use Rattle.sel_ffi.specs.ColumnsOver.{is_byte_buffer}
use Rattle.sel_ffi.proofs.view_columns.data_from.Given as goal

abbrev pub invariant-loop-handle : goal.invariant-loop-handle
invariant-loop-handle l =
    (l.buffers.items ≡ map (λ handle. bytes_of handle.buffer) (take l.handle-index l.handles))
    × All (λ handle. is_byte_buffer handle.buffer ≡ true) (take l.handle-index l.handles)
