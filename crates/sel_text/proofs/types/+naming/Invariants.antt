-- Loop invariant: the parts that are appended to the text so far.
use Rattle.std.proofs.Common.{◌≡◌, map, take, string_bytes}
use Rattle.sel_text.proofs.{Common.shape_of, Common.type_text, Printed.opened}
use Rattle.sel_text.proofs.types.+naming.Given as goal

abbrev pub invariant-push_dtypes-loop-k : goal.invariant-push_dtypes-loop-k
invariant-push_dtypes-loop-k l = string_bytes l.text ≡ opened (string_bytes l.fn.text) 60 (map (λ dtype. type_text (shape_of dtype)) (take l.k l.dtypes))
