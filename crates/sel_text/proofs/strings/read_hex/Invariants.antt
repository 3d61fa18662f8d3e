-- Loop invariant: the text that remains after the bytes so far.
use Rattle.std.proofs.Common.{◌≡◌, ℕ, List, ◌∷◌, ◌++◌, length, IsTrue, nat_lt}
use Rattle.sel_text.proofs.{Common.flat_map, Common.list_all, Common.hex_byte, Quotes.IsLeft}
use Rattle.sel_text.proofs.strings.read_hex.Given as goal

abbrev pub invariant-loop-end : goal.invariant-loop-end
invariant-loop-end l =
    (value more : List ℕ) → IsTrue (list_all (λ byte. nat_lt byte 256) value) → l.fn.bytes ≡ flat_map hex_byte value ++ (34 ∷ more) → IsLeft hex_byte (λ byte. nat_lt byte 256) value l.value.items l.rest more

abbrev pub decreases-loop-end : goal.decreases-loop-end
decreases-loop-end l = length l.rest
