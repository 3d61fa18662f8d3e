use Rattle.std.proofs.Common.{◌≡◌, ◌∙◌, ap, sym, subst, arith, ◌+◌, length, drop, map, Result, Ok, Err, IsErrAnd, MatchResult, eqb-true}
use Rattle.sel_text.proofs.Common.{length-map, shape_of, of_large_list, of_fixed_size_list, of_struct, shapes_of, listed, item_value, IsMemoryFault, Fault, OutOfMemory}
use Rattle.sel_arrow.proofs.Types.{struct_shape}
use Rattle.sel_text.proofs.Commas.{bracket_or_comma}
use Rattle.sel_text.proofs.Entries.{IsLeft, HasParts, shapes_from, items_opened, no_items, some_items, item_begins, last_item, more_items, less_room, not_ended, parts_opened, part_left, comma_before, part_begins, part_read, parts_end}
use Rattle.sel_text.specs.declared.item.Item.TheVariants.{Items, Parts}
use Rattle.sel_text.proofs.ItemRows.{item_more, items_value, parts_value}
use Rattle.sel_text.proofs.Rows.{null_read, list_row, block_row, tuple_row}
use Rattle.sel_text.proofs.item.+reading_rows.Goals as goal

memory_error : {T : Type 0} (P : T → Type 0) (r : Result T Fault) → IsErrAnd r (λ fault. fault ≡ OutOfMemory) → MatchResult r P IsMemoryFault
memory_error P (Ok x) never = absurd never
memory_error P (Err fault) is = subst IsMemoryFault (sym is) tt

pub read_item-returns-in-Some : goal.read_item-returns-in-Some
read_item-returns-in-Some t c = λ value more begins. null_read (shape_of c.args.dtype.now) value c.args.bytes.now _ more c.in-Some.ensures begins

pub read_item-returns-in-Ok-read_parts : goal.read_item-returns-in-Ok-read_parts
read_item-returns-in-Ok-read_parts t c =
    let same = ap (λ l. of_struct (shapes_of (map shape_of l))) c.deref-in-Struct.ensures.value ∙ sym (struct_shape c.args.dtype.now c.in-Struct.fields c.in-Struct.is) in
    tuple_row (λ v more. (item_value (Parts c.in-Ok-read_parts.parts) ≡ v) × (c.in-Ok-read_parts.rest.now ≡ more)) c.args.bytes.now c.in_default.ensures _ _ same
    (λ entries more fit is. let told = c.in-Ok-read_parts.ensures entries more fit is in (parts_value c.in-Ok-read_parts.parts entries told.0, told.1))

pub read_item-returns-in-Err-read_parts : goal.read_item-returns-in-Err-read_parts
read_item-returns-in-Err-read_parts t c =
    let same = ap (λ l. of_struct (shapes_of (map shape_of l))) c.deref-in-Struct.ensures.value ∙ sym (struct_shape c.args.dtype.now c.in-Struct.fields c.in-Struct.is) in
    tuple_row (λ v more. IsMemoryFault c.of_value.result) c.args.bytes.now c.in_default.ensures _ _ same
    (λ entries more fit is. c.of_value.ensures (c.in-Err-read_parts.ensures entries more fit is))

pub read_items-returns-in-Some : goal.read_items-returns-in-Some
read_items-returns-in-Some t c = λ entries more fit is.
    let s = shape_of c.args.dtype.now in
    let none = no_items s entries _ _ more fit (items_opened s entries _ _ more c.in-Ok.ensures.rest is) c.in-Some.ensures in
    (ap (map item_value) c.new-items.ensures.items ∙ none.0, none.1)

pub read_items-loop-init : goal.read_items-loop-init
read_items-loop-init t c = λ entries more fit is.
    let s = shape_of c.args.dtype.now in
    let left = some_items s entries _ more fit (items_opened s entries _ _ more c.in-Ok.ensures.rest is) c.in_default.ensures in
    let long = ap length c.in-Ok.ensures.rest in
    (subst (λ read. IsLeft s (listed entries) read c.in-Ok.rest.now more) (sym (ap (map item_value) c.new-items.ensures.items)) left, omega (arith, long))

pub read_items-returns-in-Some-behind : goal.read_items-returns-in-Some-behind
read_items-returns-in-Some-behind t c = λ entries more fit is.
    let left = (c.loop.invariant entries more fit is).0 in
    let told = c.in-Ok-read_item.ensures left.first _ (item_begins _ _ _ _ more left) in
    let last = last_item _ _ _ _ _ _ more left told.1 c.in-Some-behind.ensures in
    (item_more _ c.loop.items.items _ left.first c.in_ok-push.ensures.items told.0 ∙ last.0, last.1)

pub read_items-loop-preserved : goal.read_items-loop-preserved
read_items-loop-preserved t c = λ entries more fit is.
    let s = shape_of c.args.dtype.now in
    let before = c.loop.invariant entries more fit is in
    let left = before.0 in
    let told = c.in-Ok-read_item.ensures left.first _ (item_begins _ _ _ _ more left) in
    let next = more_items _ _ _ _ _ _ more left told.1 c.in-Ok-expect.ensures.rest in
    let room = less_room _ _ _ _ _ _ more left told.1 c.in-Ok-expect.ensures.rest in
    let grown = item_more c.push.new.self.items c.loop.items.items _ left.first c.in_ok-push.ensures.items told.0 in
    (subst (λ read. IsLeft s (listed entries) read c.in-Ok-expect.next.now more) (sym grown) next, omega (arith, room, before.1))

pub read_parts-loop-k-init : goal.read_parts-loop-k-init
read_parts-loop-k-init t c = λ entries more fit is.
    let shapes = shapes_from 0 c.args.dtypes.now in
    let none = sym (ap (map item_value) c.in_ok-parts.ensures.items) in
    subst (λ read. HasParts shapes (listed entries) read 0 c.in-Ok.rest.now more) none (parts_opened _ entries _ _ more fit c.in-Ok.ensures.rest is)

pub read_parts-returns-in-Err-read_item : goal.read_parts-returns-in-Err-read_item
read_parts-returns-in-Err-read_item t c = λ entries more fit is.
    let part = part_left c.args.dtypes.now _ _ c.loop-k.k c.index-dtypes-k.result c.loop-k.rest.now more (omega arith) c.index-dtypes-k.is (c.loop-k.invariant entries more fit is) in
    c.in-Err-read_item.ensures part.first _ (part_begins _ _ _ _ c.loop-k.k _ _ more part c.in-Ok-part_begun.ensures.first c.in-Ok-part_begun.ensures.other)

pub read_parts-loop-k-preserved : goal.read_parts-loop-k-preserved
read_parts-loop-k-preserved t c = λ entries more fit is.
    let part = part_left c.args.dtypes.now _ _ c.loop-k.k c.index-dtypes-k.result c.loop-k.rest.now more (omega arith) c.index-dtypes-k.is (c.loop-k.invariant entries more fit is) in
    let told = c.in-Ok-read_item.ensures part.first _ (part_begins _ _ _ _ c.loop-k.k _ _ more part c.in-Ok-part_begun.ensures.first c.in-Ok-part_begun.ensures.other) in
    let shapes = shapes_from (c.loop-k.k + 1) c.args.dtypes.now in
    let grown = item_more c.push.new.self.items c.loop-k.parts.items _ part.first c.in_ok-push.ensures.items told.0 in
    subst (λ read. HasParts shapes (listed entries) read (c.loop-k.k + 1) c.in-Ok-read_item.read.1.now more) (sym grown) (part_read _ _ _ _ c.loop-k.k _ _ more part told.1)

pub read_parts-returns : goal.read_parts-returns
read_parts-returns t c = λ entries more fit is. absurd (c.in-Err-expect.ensures.refused more (parts_end c.args.dtypes.now _ _ c.loop-k.k c.loop-k.rest.now more (omega arith) (c.loop-k.invariant entries more fit is)).1)

pub read_item-returns-then-len-size : goal.read_item-returns-then-len-size
read_item-returns-then-len-size t c =
    let same = ap (λ d. of_fixed_size_list (shape_of d) c.in-FixedSizeList.size) c.deref-in-FixedSizeList.ensures ∙ sym (ap shape_of c.in-FixedSizeList.is) in
    block_row (λ v more. ⊥) c.args.bytes.now c.in_default.ensures _ _ _ same
    (λ entries more count fit is.
    let long = sym (length-map c.in-Ok-read_items.items.items item_value) ∙ ap length (c.in-Ok-read_items.ensures entries more fit is).0 in
    let told = eqb-true _ _ count in
    c.if-len-size.true (omega (arith, c.len.ensures, c.in-Ok-read_items.items.ok, long, told)))

pub read_item-returns-else-len-size : goal.read_item-returns-else-len-size
read_item-returns-else-len-size t c =
    let same = ap (λ d. of_fixed_size_list (shape_of d) c.in-FixedSizeList.size) c.deref-in-FixedSizeList.ensures ∙ sym (ap shape_of c.in-FixedSizeList.is) in
    block_row (λ v more. (item_value (Items c.in-Ok-read_items.items) ≡ v) × (c.in-Ok-read_items.rest.now ≡ more)) c.args.bytes.now c.in_default.ensures _ _ _ same
    (λ entries more count fit is. let told = c.in-Ok-read_items.ensures entries more fit is in (items_value c.in-Ok-read_items.items entries told.0, told.1))

pub read_item-returns-in-Err-read_items : goal.read_item-returns-in-Err-read_items
read_item-returns-in-Err-read_items t c =
    let same = ap (λ d. of_fixed_size_list (shape_of d) c.in-FixedSizeList.size) c.deref-in-FixedSizeList.ensures ∙ sym (ap shape_of c.in-FixedSizeList.is) in
    block_row (λ v more. IsMemoryFault c.in-Err-read_items.fault) c.args.bytes.now c.in_default.ensures _ _ _ same
    (λ entries more count fit is. c.in-Err-read_items.ensures entries more fit is)

pub read_items-returns-in-Err-read_item : goal.read_items-returns-in-Err-read_item
read_items-returns-in-Err-read_item t c = λ entries more fit is.
    let left = (c.loop.invariant entries more fit is).0 in
    c.in-Err-read_item.ensures left.first _ (item_begins _ _ _ _ more left)

pub read_items-returns-in_err-push : goal.read_items-returns-in_err-push
read_items-returns-in_err-push t c = λ entries more fit is. memory_error _ c.from_residual.result c.from_residual.ensures.1

pub read_items-returns-in-Err-expect : goal.read_items-returns-in-Err-expect
read_items-returns-in-Err-expect t c = λ entries more fit is.
    let left = (c.loop.invariant entries more fit is).0 in
    let told = c.in-Ok-read_item.ensures left.first _ (item_begins _ _ _ _ more left) in
    absurd (bracket_or_comma 93 _ _ more told.1 c.in_default-behind.ensures c.in-Err-expect.ensures.refused)

pub read_items-returns : goal.read_items-returns
read_items-returns t c = λ entries more fit is.
    let before = c.loop.invariant entries more fit is in
    not_ended _ _ _ _ more before.0 (omega (arith, before.1))

pub read_parts-returns-in-Err-part_begun : goal.read_parts-returns-in-Err-part_begun
read_parts-returns-in-Err-part_begun t c = λ entries more fit is.
    let part = part_left c.args.dtypes.now _ _ c.loop-k.k c.index-dtypes-k.result c.loop-k.rest.now more (omega arith) c.index-dtypes-k.is (c.loop-k.invariant entries more fit is) in
    absurd (comma_before c.loop-k.k _ _ _ more c.in-Err-part_begun.ensures.refused part.text c.in-Err-part_begun.ensures.comma)

pub read_parts-returns-in_err-push : goal.read_parts-returns-in_err-push
read_parts-returns-in_err-push t c = λ entries more fit is. memory_error _ c.from_residual-in_err-push.result c.from_residual-in_err-push.ensures.1

pub read_parts-returns-in-Ok-expect : goal.read_parts-returns-in-Ok-expect
read_parts-returns-in-Ok-expect t c = λ entries more fit is.
    let end = parts_end c.args.dtypes.now _ _ c.loop-k.k c.loop-k.rest.now more (omega arith) (c.loop-k.invariant entries more fit is) in
    (end.0, ap (drop 1) (sym c.in-Ok-expect.ensures.rest ∙ end.1))

pub read_item-returns-in-Ok : goal.read_item-returns-in-Ok
read_item-returns-in-Ok t c =
    let same = ap (λ d. of_large_list (shape_of d)) c.deref.ensures ∙ sym (ap shape_of c.in-LargeList.is) in
    list_row (λ v more. (item_value (Items c.in-Ok.items) ≡ v) × (c.in-Ok.rest.now ≡ more)) c.args.bytes.now c.in_default.ensures _ _ same
    (λ entries more fit is. let told = c.in-Ok.ensures entries more fit is in (items_value c.in-Ok.items entries told.0, told.1))
