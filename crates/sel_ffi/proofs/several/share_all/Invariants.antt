-- The clones so far.
use Rattle.std.proofs.Common.{◌≡◌, ◌≤◌, take, map, All}
use Rattle.sel_ffi.proofs.Common.{depth, rows, type_of, buffers_held, held_buffer_lists, held_rows, held_type, HasColumn}
use Rattle.sel_ffi.proofs.several.share_all.Given as goal

abbrev pub invariant-loop-handle : goal.invariant-loop-handle
invariant-loop-handle l =
    (map (λ column. rows column.column) l.shared.items ≡ map (λ handle. held_rows handle.tree) (take l.handle-index l.handles))
    × (map (λ column. type_of column.column) l.shared.items ≡ map (λ handle. held_type handle.tree) (take l.handle-index l.handles))
    × (map (λ column. buffers_held column.column) l.shared.items ≡ map (λ handle. held_buffer_lists handle.tree) (take l.handle-index l.handles))
    × All (λ handle. HasColumn handle.tree) (take l.handle-index l.handles)
    × All (λ column. depth (type_of column.column) ≤ 128) l.shared.items
