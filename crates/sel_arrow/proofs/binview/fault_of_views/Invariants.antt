-- The first fault of the remaining views is the first fault of all views.
use Rattle.std.proofs.Common.{◌≡◌, drop}
use Rattle.sel_arrow.specs.Makers.{views_fault}
use Rattle.sel_arrow.proofs.binview.fault_of_views.Given as goal

abbrev pub invariant-loop-view : goal.invariant-loop-view
invariant-loop-view l = views_fault l.buffers (drop l.view-index l.views) ≡ views_fault l.buffers l.views
