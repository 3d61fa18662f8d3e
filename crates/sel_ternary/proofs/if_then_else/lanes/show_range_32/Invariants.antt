use Rattle.sel_ternary.proofs.Common.{◌≡◌, ℕ, ◌<◌, pos, get_or, w32, cast_signed, cast_unsigned}
use Rattle.sel_ternary.proofs.if_then_else.lanes.show_range_32.Given as goal

abbrev pub invariant-loop-i : goal.invariant-loop-i
invariant-loop-i l = (k : ℕ) → k < l.i → cast_signed w32 (cast_unsigned w32 (get_or l.values k (pos 0))) ≡ get_or l.values k (pos 0)
