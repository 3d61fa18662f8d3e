-- Loop invariant: the characters so far are appended to the text.
use Rattle.std.proofs.{Common.◌≡◌, Common.◌∷◌, Common.◌++◌, Common.string_bytes, Math.Utf8.encodes}
use Rattle.sel_text.proofs.Common.{flat_map, escaped}
use Rattle.sel_text.proofs.print.push_quoted.Given as goal

abbrev pub invariant-loop-letter : goal.invariant-loop-letter
invariant-loop-letter l = string_bytes l.text ≡ string_bytes l.fn.text ++ (34 ∷ flat_map escaped (encodes l.yielded))
