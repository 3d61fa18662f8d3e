use Rattle.sel_ternary.proofs.Common.{◌≡◌, ℕ, ◌<◌, pos, get_or, w16, cast_signed, cast_unsigned}
use Rattle.sel_ternary.proofs.if_then_else.lanes.show_range_16.Given as goal

abbrev pub invariant-loop-i : goal.invariant-loop-i
invariant-loop-i l = (k : ℕ) → k < l.i → cast_signed w16 (cast_unsigned w16 (get_or l.values k (pos 0))) ≡ get_or l.values k (pos 0)
