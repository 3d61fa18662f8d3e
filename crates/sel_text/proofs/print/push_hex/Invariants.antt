-- Loop invariant: the bytes so far are appended to the text.
use Rattle.std.proofs.Common.{◌≡◌, ◌++◌, take, string_bytes, codes}
use Rattle.sel_text.proofs.Common.{flat_map, hex_byte}
use Rattle.sel_text.proofs.print.push_hex.Given as goal

abbrev pub invariant-loop-byte : goal.invariant-loop-byte
invariant-loop-byte l = string_bytes l.text ≡ string_bytes l.fn.text ++ (codes "h\"" ++ flat_map hex_byte (take l.byte-index l.bytes))
