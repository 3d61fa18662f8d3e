use Rattle.sel_ternary.proofs.Common.{◌≡◌, ℕ, ◌<◌, pos, get_or, w8, cast_signed, cast_unsigned}
use Rattle.sel_ternary.proofs.if_then_else.lanes.show_range_8.Given as goal

abbrev pub invariant-loop-i : goal.invariant-loop-i
invariant-loop-i l = (k : ℕ) → k < l.i → cast_signed w8 (cast_unsigned w8 (get_or l.values k (pos 0))) ≡ get_or l.values k (pos 0)
