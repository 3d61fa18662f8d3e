use Rattle.std.proofs.Common.{◌≡◌, ◌<◌, ◌≤◌, ◌++◌, ◌∷◌, [], true, length, map, ap, sym, refl, subst, arith, ◌∙◌, length-append, drop}
use Rattle.sel_text.proofs.Common.{map-append, shape_of, next_shape, shapes_of, of_struct, of_fixed_size_list, of_large_list, angled, type_texts, deepest, depth, widths_written, all_widths_written, ReportsLimit, nat_lt}
use Rattle.sel_arrow.proofs.Types.{shape_of-Struct}
use Rattle.sel_text.proofs.Commas.{after, bracket_or_comma, commas, comma_more, comma_last}
use Rattle.sel_text.proofs.Fields.{IsLeft, all_left, last_read, more_left, left_narrow, no_types, some_types, block_narrow, field_told, grown_depth, grown_narrow}
use Rattle.sel_text.proofs.TypeTexts.{text_of_type, struct_behind}
use Rattle.sel_text.proofs.TypesTold.{plain_told, tuples_told, blocks_told, lists_told, deeper_told}
use Rattle.sel_text.proofs.read_type.+reading_types.Goals as goal

pub read_fields-loop-init : goal.read_fields-loop-init
read_fields-loop-init t c = record {
  text = sym (ap (λ l. commas (map text_of_type l) ++ c.args.bytes.now) c.new-fields.ensures.items);
  levels = subst (λ l. deepest (shapes_of (map shape_of l)) < c.args.levels) (sym c.new-fields.ensures.items) c.requires;
  widths = ap (λ l. all_widths_written (shapes_of (map shape_of l))) c.new-fields.ensures.items;
  room = omega arith;
  left = λ s ss more narrow is. subst (λ l. IsLeft (next_shape s ss) l c.args.bytes.now more) (sym c.new-fields.ensures.items) (all_left s ss c.args.bytes.now more narrow is);
}

pub read_fields-returns-in-Some : goal.read_fields-returns-in-Some
read_fields-returns-in-Some t c =
    let text = text_of_type c.in-Ok.read.0 in
    let put = c.in_ok-push.ensures.items in
    let grown = ap (map text_of_type) put ∙ map-append text_of_type c.loop.fields.items (c.in-Ok.read.0 ∷ []) in
    record {
      text = comma_last 60 62 _ _ text _ _ _ grown c.loop.invariant.text (c.in-Ok.ensures.text ∙ ap (λ l. text ++ l) c.in-Some.ensures);
      levels = grown_depth _ _ c.in-Ok.read.0 c.args.levels put c.loop.invariant.levels (omega (arith, c.in-Ok.ensures.levels, c.requires));
      widths = grown_narrow _ _ c.in-Ok.read.0 put c.loop.invariant.widths c.in-Ok.ensures.widths;
      whole = λ s ss more narrow is.
          let left = c.loop.invariant.left s ss more narrow is in
          let told = c.in-Ok.ensures.whole left.first (after 62 (type_texts left.others) more) (left_narrow _ _ _ _ left) left.text in
          last_read (next_shape s ss) c.loop.fields.items _ c.in-Ok.read.0 _ _ _ more left put told c.in-Some.ensures;
    }

pub read_fields-returns-in-Err-clause-whole : goal.read_fields-returns-in-Err-clause-whole
read_fields-returns-in-Err-clause-whole t c = λ s ss more narrow is.
    let left = c.loop.invariant.left s ss more narrow is in
    let told = c.in-Err.ensures.whole left.first (after 62 (type_texts left.others) more) (left_narrow _ _ _ _ left) left.text in
    field_told (next_shape s ss) c.loop.fields.items c.loop.rest.now more left c.args.levels c.in-Err.fault c.requires told

pub read_fields-returns-in_default-behind-clause-whole : goal.read_fields-returns-in_default-behind-clause-whole
read_fields-returns-in_default-behind-clause-whole t c = λ s ss more narrow is.
    let left = c.loop.invariant.left s ss more narrow is in
    let told = c.in-Ok.ensures.whole left.first (after 62 (type_texts left.others) more) (left_narrow _ _ _ _ left) left.text in
    bracket_or_comma 62 (type_texts left.others) c.in-Ok.read.1.now more told.1 c.in_default.ensures c.in_default-behind.ensures

pub read_fields-loop-preserved : goal.read_fields-loop-preserved
read_fields-loop-preserved t c =
    let text = text_of_type c.in-Ok.read.0 in
    let grown = ap (map text_of_type) c.in_ok-push.ensures.items ∙ map-append text_of_type c.loop.fields.items (c.in-Ok.read.0 ∷ []) in
    let here : c.loop.rest.now ≡ text ++ (44 ∷ c.in-Some-behind.next.now) = c.in-Ok.ensures.text ∙ ap (λ l. text ++ l) c.in-Some-behind.ensures in
    let long = ap length here in
    let parts = length-append text (44 ∷ c.in-Some-behind.next.now) in
    record {
      text = comma_more _ _ text _ _ _ grown c.loop.invariant.text here;
      levels = grown_depth c.loop.fields.items c.push.new.self.items c.in-Ok.read.0 c.args.levels c.in_ok-push.ensures.items c.loop.invariant.levels (omega (arith, c.in-Ok.ensures.levels, c.requires));
      widths = grown_narrow c.loop.fields.items c.push.new.self.items c.in-Ok.read.0 c.in_ok-push.ensures.items c.loop.invariant.widths c.in-Ok.ensures.widths;
      room = omega (arith, long, parts, c.loop.invariant.room);
      left = λ s ss more narrow is.
          let left = c.loop.invariant.left s ss more narrow is in
          let told = c.in-Ok.ensures.whole left.first (after 62 (type_texts left.others) more) (left_narrow _ _ _ _ left) left.text in
          more_left (next_shape s ss) c.loop.fields.items c.push.new.self.items c.in-Ok.read.0 c.loop.rest.now c.in-Ok.read.1.now c.in-Some-behind.next.now more left c.in_ok-push.ensures.items told c.in-Some-behind.ensures;
    }

pub read_struct_type-returns-in-Some : goal.read_struct_type-returns-in-Some
read_struct_type-returns-in-Some t c =
    let none = shape_of-Struct c.new.result ∙ ap (λ l. of_struct (shapes_of (map shape_of l))) c.new.ensures.items in
    let here : c.args.bytes.now ≡ 60 ∷ 62 ∷ c.in-Some.rest.now = c.in-Ok.ensures.rest ∙ ap (λ l. 60 ∷ l) c.in-Some.ensures in
    record {
      text = struct_behind c.new.result [] _ _ c.new.ensures.items here;
      levels = subst (λ s. depth s ≤ c.args.levels) (sym none) c.requires;
      widths = ap widths_written none;
      whole = λ s more few is.
          let told = tuples_told s c.args.bytes.now more is in
          let parts = no_types told.0 c.in-Some.rest.now more (sym here ∙ told.2) in
          (none ∙ ap of_struct (sym parts.0) ∙ sym told.1, parts.1);
    }

pub read_struct_type-returns-in-Ok-read_fields : goal.read_struct_type-returns-in-Ok-read_fields
read_struct_type-returns-in-Ok-read_fields t c =
    let rest = c.in-Ok.ensures.rest in
    let fields = c.in-Ok-read_fields.ensures in
    let shape = shape_of-Struct c.in-Ok-read_fields.fields in
    record {
      text = struct_behind c.in-Ok-read_fields.fields _ _ _ refl (rest ∙ fields.text);
      levels = subst (λ s. depth s ≤ c.args.levels) (sym shape) (omega (arith, fields.levels));
      widths = ap widths_written shape ∙ fields.widths;
      whole = λ s more few is.
          let told = tuples_told s c.args.bytes.now more is in
          let here = sym rest ∙ told.2 in
          let some = some_types told.0 c.in-Ok.rest.now more here c.in_default.ensures in
          let narrow : all_widths_written (next_shape some.0 some.1) ≡ true = ap all_widths_written (sym some.2) ∙ ap widths_written (sym told.1) ∙ few in
          let read = fields.whole some.0 some.1 more narrow (here ∙ ap (λ l. angled (type_texts l) ++ more) some.2) in
          (shape ∙ ap of_struct (read.0 ∙ sym some.2) ∙ sym told.1, read.1);
    }

pub read_blocks-returns-in-Ok-read_child-clause-whole : goal.read_blocks-returns-in-Ok-read_child-clause-whole
read_blocks-returns-in-Ok-read_child-clause-whole t c = λ s more few is.
    let told = blocks_told s c.args.bytes.now more is in
    let fits = block_narrow told.0 told.1 (ap widths_written (sym told.2) ∙ few) in
    let size = c.in-Ok.ensures.whole told.1 _ fits.0 told.3 in
    let child = c.in-Ok-read_child.ensures.whole told.0 more fits.1 size.1 in
    (ap (λ x. of_fixed_size_list x c.in-Ok.read.0) child.0 ∙ ap (of_fixed_size_list told.0) size.0 ∙ sym told.2, child.1)

pub read_blocks-returns-in-Err-read_child-clause-whole : goal.read_blocks-returns-in-Err-read_child-clause-whole
read_blocks-returns-in-Err-read_child-clause-whole t c = λ s more few is.
    let told = blocks_told s c.args.bytes.now more is in
    let fits = block_narrow told.0 told.1 (ap widths_written (sym told.2) ∙ few) in
    let child = c.in-Err-read_child.ensures.whole told.0 more fits.1 (c.in-Ok.ensures.whole told.1 _ fits.0 told.3).1 in
    subst (λ s. ReportsLimit (nat_lt c.args.levels (depth s)) c.in-Err-read_child.fault) (sym told.2) (deeper_told c.args.levels (depth told.0) _ c.requires child)

pub read_list-returns-in-Ok-read_child-clause-whole : goal.read_list-returns-in-Ok-read_child-clause-whole
read_list-returns-in-Ok-read_child-clause-whole t c = λ s more few is.
    let told = lists_told s c.args.bytes.now more is in
    let child = c.in-Ok-read_child.ensures.whole told.0 more (ap widths_written (sym told.1) ∙ few) (ap (drop 1) (sym c.in-Ok.ensures.rest ∙ told.2)) in
    (ap of_large_list child.0 ∙ sym told.1, child.1)

pub read_list-returns-in-Err-read_child-clause-whole : goal.read_list-returns-in-Err-read_child-clause-whole
read_list-returns-in-Err-read_child-clause-whole t c = λ s more few is.
    let told = lists_told s c.args.bytes.now more is in
    let child = c.in-Err-read_child.ensures.whole told.0 more (ap widths_written (sym told.1) ∙ few) (ap (drop 1) (sym c.in-Ok.ensures.rest ∙ told.2)) in
    subst (λ s. ReportsLimit (nat_lt c.args.levels (depth s)) c.in-Err-read_child.fault) (sym told.1) (deeper_told c.args.levels (depth told.0) _ c.requires child)

pub read_type-returns-in-Some-clause-whole : goal.read_type-returns-in-Some-clause-whole
read_type-returns-in-Some-clause-whole t c = λ s more few is. plain_told (shape_of c.in-Some.read.0) s c.args.bytes.now _ more c.in-Some.ensures.plain c.in-Some.ensures.text is
