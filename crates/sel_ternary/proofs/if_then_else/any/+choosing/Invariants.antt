-- Each recursive call has a smaller type; the fields so far are chosen.
use Rattle.sel_ternary.proofs.Common.{◌≡◌, ℕ, ◌+◌, ◌*◌, ◌<◌, [], ◌∷◌, All, length, map, take, get_or, rows, type_of, of_null, field, part_at, ExceedsNone}
use Rattle.sel_ternary.proofs.Common.{exceeded_taken, size_of, chosen_rows}
use Rattle.sel_arrow.specs.Rows.{IsField}
use Rattle.sel_gather.specs.Steps.{parts_of}
use Rattle.sel_ternary.proofs.if_then_else.any.+choosing.Given as goal

abbrev pub decreases-choice : goal.decreases-choice
decreases-choice l = 4 * size_of (type_of l.if_true.now.column) + 3

abbrev pub decreases-struct_choice : goal.decreases-struct_choice
decreases-struct_choice l = 4 * size_of (type_of l.if_true.now.column) + 2

abbrev pub decreases-field_choices : goal.decreases-field_choices
decreases-field_choices l = 4 * size_of (type_of l.if_true.now.column) + 1

abbrev pub decreases-field_choice : goal.decreases-field_choice
decreases-field_choice l = 4 * size_of (type_of l.if_true.now.column)

abbrev pub invariant-field_choices-loop-j : goal.invariant-field_choices-loop-j
invariant-field_choices-loop-j l = record {
  parts : map rows l.fields.items ≡ parts_of l.j (chosen_rows l.true_column l.false_column l.mask.bits (rows l.if_true.column) (rows l.if_false.column));
  dtypes : map type_of l.fields.items ≡ take l.j (map type_of l.firsts);
  formed : All (IsField (length l.mask.bits)) l.fields.items;
  within : (k : ℕ) → k < l.j → ExceedsNone (exceeded_taken (get_or (map type_of l.firsts) k of_null) (map (field k) (l.if_true.column ∷ l.if_false.column ∷ [])) (map (part_at k) (chosen_rows l.true_column l.false_column l.mask.bits (rows l.if_true.column) (rows l.if_false.column))));
}
