-- The clones so far; each handle has its column.
use Rattle.std.proofs.Common.{◌≡◌, ◌≤◌, ◌-◌, length, take, map, All}
use Rattle.sel_ffi.proofs.Common.{rows, type_of, held_rows, held_type, HasColumn}
use Rattle.sel_ffi.proofs.several.clone_all.Given as goal

abbrev pub invariant-loop-i : goal.invariant-loop-i
invariant-loop-i l =
    (l.i ≤ length l.handles)
    × (map (λ handle. handle.tree) l.handles ≡ map (λ handle. handle.tree) l.initial.handles)
    × (map (λ column. rows column.column) l.cloned.items ≡ map (λ handle. held_rows handle.tree) (take l.i l.initial.handles))
    × (map (λ column. type_of column.column) l.cloned.items ≡ map (λ handle. held_type handle.tree) (take l.i l.initial.handles))
    × All (λ handle. HasColumn handle.tree) (take l.i l.initial.handles)

abbrev pub decreases-loop-i : goal.decreases-loop-i
decreases-loop-i l = length l.handles - l.i
