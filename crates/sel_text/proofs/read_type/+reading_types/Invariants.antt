-- Termination: each level takes at most three calls. Loop invariant: the types so far, each
-- followed by a comma.
use Rattle.std.proofs.Common.{◌≡◌, ◌+◌, ◌*◌, ◌<◌, ◌≤◌, true, ℕ, List, ◌∷◌, ◌++◌, length, map}
use Rattle.sel_text.proofs.Common.{shape_of, Shape, Shapes, next_shape, shapes_of, angled, type_texts, deepest, all_widths_written}
use Rattle.sel_text.proofs.{Fields.IsLeft, Commas.commas, TypeTexts.text_of_type}
use Rattle.sel_text.proofs.read_type.+reading_types.Given as goal

abbrev pub decreases-read_type : goal.decreases-read_type
decreases-read_type l = 3 * l.levels + 3

abbrev pub decreases-read_list : goal.decreases-read_list
decreases-read_list l = 3 * l.levels + 2

abbrev pub decreases-read_blocks : goal.decreases-read_blocks
decreases-read_blocks l = 3 * l.levels + 2

abbrev pub decreases-read_child : goal.decreases-read_child
decreases-read_child l = 3 * l.levels + 1

abbrev pub decreases-read_struct_type : goal.decreases-read_struct_type
decreases-read_struct_type l = 3 * l.levels + 2

abbrev pub decreases-read_fields : goal.decreases-read_fields
decreases-read_fields l = 3 * l.levels + 1

abbrev pub invariant-read_fields-loop : goal.invariant-read_fields-loop
invariant-read_fields-loop l = record {
  text : l.fn.bytes ≡ commas (map text_of_type l.fields.items) ++ l.rest;
  levels : deepest (shapes_of (map shape_of l.fields.items)) < l.fn.levels;
  widths : all_widths_written (shapes_of (map shape_of l.fields.items)) ≡ true;
  room : length l.rest + l.counter ≤ length l.fn.bytes;
  left : (first : Shape) (others : Shapes) (more : List ℕ) → all_widths_written (next_shape first others) ≡ true → 60 ∷ l.fn.bytes ≡ angled (type_texts (next_shape first others)) ++ more →
      IsLeft (next_shape first others) l.fields.items l.rest more;
}
