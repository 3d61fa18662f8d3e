-- Loop invariant: the bits so far are true.
use Rattle.std.{proofs.Common.◌≡◌, proofs.Common.true, proofs.Common.take, specs.List.list_all}
use Rattle.sel_text.proofs.build.all_true.Given as goal

abbrev pub invariant-loop-bit : goal.invariant-loop-bit
invariant-loop-bit l = list_all (λ bit. bit) (take l.bit-index l.bits) ≡ true
