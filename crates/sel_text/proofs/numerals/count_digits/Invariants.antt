-- Loop invariant: the bytes so far are digits.
use Rattle.std.{proofs.Common.ℕ, proofs.Common.◌<◌, proofs.Common.get_or, specs.Int.IsInRange}
use Rattle.sel_text.proofs.numerals.count_digits.Given as goal

abbrev pub invariant-loop-i : goal.invariant-loop-i
invariant-loop-i l = (k : ℕ) → k < l.i → IsInRange 48 57 (get_or l.bytes k 0)
