-- Loop invariant: the text that remains after the bytes so far.
use Rattle.std.proofs.Common.{◌≡◌, ℕ, true, List, ◌∷◌, ◌++◌, length}
use Rattle.sel_text.proofs.{Common.flat_map, Common.escaped, Quotes.IsLeft}
use Rattle.sel_text.proofs.strings.read_quoted.Given as goal

abbrev pub invariant-loop-end : goal.invariant-loop-end
invariant-loop-end l =
    (value more : List ℕ) → l.fn.bytes ≡ flat_map escaped value ++ (34 ∷ more) → IsLeft escaped (λ byte. true) value l.value.items l.rest more

abbrev pub decreases-loop-end : goal.decreases-loop-end
decreases-loop-end l = length l.rest
