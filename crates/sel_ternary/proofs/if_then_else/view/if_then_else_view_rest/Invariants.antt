use Rattle.sel_ternary.proofs.{Common.length, Common.map, Common.bits, Common.raised, Common.◌*◌, Chosen.IsChosen}
use Rattle.sel_ternary.proofs.if_then_else.view.if_then_else_view_rest.Given as goal

abbrev pub invariant-loop-k : goal.invariant-loop-k
invariant-loop-k l = IsChosen (bits (length l.initial.out) l.mask) l.if_true (map (λ view. raised view l.false_buffer_idx_offset) l.if_false) l.initial.out (2 * l.k) l.out
