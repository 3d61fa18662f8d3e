-- Loop invariants: the rows so far fit, and their texts are appended.
use Rattle.std.proofs.Common.{◌≡◌, true, map, take, string_bytes}
use Rattle.sel_text.proofs.Common.{list_all, shape_of, shapes_of, values_of, fits, fields_fit, item_value, part_texts, value_text}
use Rattle.sel_text.proofs.Printed.{opened}
use Rattle.sel_text.proofs.item_text.+writing_items.Given as goal

abbrev pub invariant-push_list-loop-k : goal.invariant-push_list-loop-k
invariant-push_list-loop-k l =
    (list_all (fits (shape_of l.dtype)) (map item_value (take l.k l.items)) ≡ true)
    × (string_bytes l.text ≡ opened (string_bytes l.fn.text) 91 (map (value_text (shape_of l.dtype)) (map item_value (take l.k l.items))))

abbrev pub invariant-push_fields-loop-k : goal.invariant-push_fields-loop-k
invariant-push_fields-loop-k l =
    (fields_fit (shapes_of (map shape_of (take l.k l.dtypes))) (values_of (map item_value (take l.k l.parts))) ≡ true)
    × (string_bytes l.text ≡ opened (string_bytes l.fn.text) 40 (part_texts (shapes_of (map shape_of (take l.k l.dtypes))) (values_of (map item_value (take l.k l.parts)))))
