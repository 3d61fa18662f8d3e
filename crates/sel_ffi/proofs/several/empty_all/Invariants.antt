-- The first i handles are empty.
use Rattle.std.proofs.Common.{◌≡◌, ◌≤◌, ◌-◌, length, take, All, None}
use Rattle.sel_ffi.proofs.several.empty_all.Given as goal

abbrev pub invariant-loop-i : goal.invariant-loop-i
invariant-loop-i l = (l.i ≤ length l.handles) × All (λ handle. handle.tree ≡ None) (take l.i l.handles)

abbrev pub decreases-loop-i : goal.decreases-loop-i
decreases-loop-i l = length l.handles - l.i
