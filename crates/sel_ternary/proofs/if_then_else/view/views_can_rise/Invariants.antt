use Rattle.sel_ternary.proofs.Common.{◌≡◌, true, take, list_all, can_rise}
use Rattle.sel_ternary.proofs.if_then_else.view.views_can_rise.Given as goal

abbrev pub invariant-loop-view : goal.invariant-loop-view
invariant-loop-view l = list_all (can_rise l.by) (take l.view-index l.views) ≡ true
