use Rattle.std.proofs.Common.{◌≡◌, ◌≤◌, ◌-◌, length, take, map}
use Rattle.sel_ffi.specs.Inputs.{view_in}
use Rattle.sel_ffi.proofs.view_parts.write_views.Given as goal

abbrev pub invariant-loop-i : goal.invariant-loop-i
invariant-loop-i l = (l.i ≤ length l.views) × (length l.out ≡ length l.views) × (map view_in (take l.i l.out) ≡ take l.i l.views)

abbrev pub decreases-loop-i : goal.decreases-loop-i
decreases-loop-i l = length l.views - l.i
