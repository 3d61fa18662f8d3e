-- Loop invariants: the parts that are appended to the text so far.
use Rattle.std.proofs.Common.{◌≡◌, map, take, string_bytes}
use Rattle.sel_text.proofs.{Common.slice_range, Common.rows, Common.type_of, Common.value_text, Common.field_text, Printed.opened}
use Rattle.sel_text.proofs.print.+printing.Given as goal

abbrev pub invariant-push_items-loop-i : goal.invariant-push_items-loop-i
invariant-push_items-loop-i l = string_bytes l.text ≡ opened (string_bytes l.fn.text) 91 (map (value_text (type_of l.column)) (slice_range (rows l.column) l.start l.i))

abbrev pub invariant-push_parts-loop-k : goal.invariant-push_parts-loop-k
invariant-push_parts-loop-k l = string_bytes l.text ≡ opened (string_bytes l.fn.text) 40 (map (field_text l.place) (take l.k l.fields))
