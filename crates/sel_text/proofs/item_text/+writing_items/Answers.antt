use Rattle.std.proofs.Common.{rules, ◌≡◌, ◌∙◌, ◌+◌, ◌<◌, ◌++◌, ◌∷◌, [], ap, sym, lit<, arith, take, map, length, length-take, get_or, string_bytes}
use Rattle.sel_text.proofs.Common.{list_all_at, map_more, map-append, take_more, length-map, get_or-map, IfOk-weaker, shape_of, of_large_list, of_fixed_size_list, of_struct, shapes_of, Items, Null, Tuple, values_of, list_all, fits, fields_fit, item_value, item_shape, parenthesized, part_texts, value_text}
use Rattle.sel_arrow.proofs.Types.{struct_shape}
use Rattle.sel_text.proofs.Equalities.{list_back}
use Rattle.sel_text.proofs.ItemRows.{list_is, tuple_is}
use Rattle.sel_text.proofs.ItemTexts.{list_row, no_list, other_size, same_size, all_grown, fields_fail, other_count, fields_more, parts_more, parts_count}
use Rattle.sel_text.proofs.Printed.{opened_first, opened_more}
use Rattle.sel_text.proofs.item_text.+writing_items.Goals as goal
use Rattle.sel_text.proofs.item_text.+writing_items.Goals.{push_list-then-k-gt0+in_ok-push-2, push_list-else-k-gt0, push_fields-then-k-gt0+in_ok-push-2, push_fields-else-k-gt0}

-- ---- lists

pub push_item-returns-in-LargeList : goal.push_item-returns-in-LargeList
push_item-returns-in-LargeList t c =
    let items = c.in-Items.items in
    let same = ap (λ d. of_large_list (shape_of d)) c.deref-in-LargeList.ensures ∙ sym (ap shape_of c.in-LargeList.is) in
    let row = list_row _ _ c.args.item.now items _ c.deref-in-LargeList-2.ensures.value c.in-Items.is (ap item_shape (sym same)) (ap (λ t. fits t (Items (values_of (map item_value items.items)))) same) in
    record {
      fit = IfOk-weaker c.push_list.result _ _ (λ fit is. is ∙ row.0) c.push_list.ensures.fit;
      text = IfOk-weaker c.push_list.result _ _ (λ fit put is. put is ∙ ap (λ l. string_bytes c.args.text.now ++ l) row.1) c.push_list.ensures.text;
    }

pub push_item-returns-then-len-size-clause-fit : goal.push_item-returns-then-len-size-clause-fit
push_item-returns-then-len-size-clause-fit t c =
    let s = shape_of c.in-FixedSizeList.child.value in
    let size = c.in-FixedSizeList.size in
    let value = list_is c.args.item.now c.in-Items.items c.in-Items.is in
    let count = ap length (list_back (map item_value c.in-Items.items.items)) ∙ length-map c.in-Items.items.items item_value in
    other_size _ size _ (λ same. c.if-len-size.true (omega (arith, c.len.ensures, c.in-Items.items.ok, count, same)))
    ∙ ap (λ t. fits t (Items (values_of (map item_value c.in-Items.items.items)))) (sym (ap shape_of c.in-FixedSizeList.is)) ∙ ap (fits (shape_of c.args.dtype.now)) (sym value)

pub push_item-returns-else-len-size : goal.push_item-returns-else-len-size
push_item-returns-else-len-size t c =
    let items = c.in-Items.items in
    let size = c.in-FixedSizeList.size in
    let vs = map item_value items.items in
    let same = ap (λ d. of_fixed_size_list (shape_of d) size) c.deref-in-FixedSizeList.ensures ∙ sym (ap shape_of c.in-FixedSizeList.is) in
    let count = ap length (list_back vs) ∙ length-map items.items item_value in
    let fit = same_size _ size _ (omega (arith, c.len.ensures, items.ok, count, c.if-len-size.false)) ∙ ap (λ t. fits t (Items (values_of vs))) same in
    let row = list_row _ _ c.args.item.now items _ c.deref-in-FixedSizeList-2.ensures.value c.in-Items.is (ap item_shape (sym same)) fit in
    record {
      fit = IfOk-weaker c.push_list-in-FixedSizeList.result _ _ (λ fit is. is ∙ row.0) c.push_list-in-FixedSizeList.ensures.fit;
      text = IfOk-weaker c.push_list-in-FixedSizeList.result _ _ (λ fit put is. put is ∙ ap (λ l. string_bytes c.args.text.now ++ l) row.1) c.push_list-in-FixedSizeList.ensures.text;
    }

pub push_item-returns-in_default : goal.push_item-returns-in_default
push_item-returns-in_default t c =
    record {
      fit = no_list c.args.dtype.now _ c.in_default.not-LargeList c.in_default.not-FixedSizeList ∙ ap (fits (shape_of c.args.dtype.now)) (sym (list_is c.args.item.now c.in-Items.items c.in-Items.is));
      text = search rules;
    }

pub push_list-returns-then-not-fit-clause-fit : goal.push_list-returns-then-not-fit-clause-fit
push_list-returns-then-not-fit-clause-fit t c =
    let items = c.args.items.now in
    let inside = c.loop-k-test.true in
    let there = get_or-map item_value items c.loop-k.k c.index-items-k.result Null inside ∙ ap item_value (sym c.index-items-k.is) in
    let fails = ap (fits (shape_of c.args.dtype.now)) there ∙ sym c.in_ok-fit.ensures.fit ∙ c.if-not-fit.true in
    sym (list_all_at (fits (shape_of c.args.dtype.now)) (map item_value items) c.loop-k.k Null (rw length-map inside) fails)

pub push_list-loop-k-preserved : goal.push_list-loop-k-preserved
push_list-loop-k-preserved t c =
    let s = shape_of c.args.dtype.now in
    let xs = c.args.items.now in
    let k = c.loop-k.k in
    let before = map item_value (take k xs) in
    let item = c.index-items-k.result in
    let grown = map_more item_value xs k item c.loop-k-test.true ∙ ap (λ x. before ++ item_value x ∷ []) (sym c.index-items-k.is) in
    let fit = sym c.in_ok-fit.ensures.fit ∙ c.if-not-fit.false in
    let texts = ap (map (value_text s)) grown ∙ map-append (value_text s) before (item_value item ∷ []) in
    let count : length (map (value_text s) before) ≡ k = rw (length-map, length-map, length-take) (omega arith) in (
      ap (list_all (fits s)) grown ∙ all_grown (fits s) before (item_value item) c.loop-k.invariant.0 fit,
      elim c.if-k-gt0.branch [
        | push_list-then-k-gt0+in_ok-push-2 w ↦ opened_more _ _ _ _ _ _ 91 _ _ _ (omega (arith, count, w.if-k-gt0.true)) texts c.loop-k.invariant.1
            (ap string_bytes w.text-is) w.in_ok-push-2.ensures.bytes (w.in_ok-push-2.ensures.ascii (lit< tt)) (c.in_ok-fit.ensures.text c.if-not-fit.false)
        | push_list-else-k-gt0 w ↦ opened_first _ _ _ 91 _ _ _ (omega (arith, count, w.if-k-gt0.false)) texts (ap string_bytes w.text-is ∙ c.loop-k.invariant.1) (c.in_ok-fit.ensures.text c.if-not-fit.false)
      ],
    )

-- ---- struct values

pub push_item-returns-in-Struct : goal.push_item-returns-in-Struct
push_item-returns-in-Struct t c =
    let dtype = shape_of c.args.dtype.now in
    let shapes = shapes_of (map shape_of c.deref-in-Struct.result.now) in
    let row = Tuple (values_of (map item_value c.in-Parts.parts.items)) in
    let same = ap (λ l. of_struct (shapes_of (map shape_of l))) c.deref-in-Struct.ensures.value ∙ sym (struct_shape c.args.dtype.now c.in-Struct.dtypes c.in-Struct.is) in
    let value = sym (tuple_is c.args.item.now c.in-Parts.parts c.in-Parts.is) in
    let parts = ap (λ l. values_of (map item_value l)) c.deref-in-Struct-2.ensures.value in
    let fits_row = ap (fields_fit shapes) parts ∙ ap (λ t. fits t row) same ∙ ap (fits dtype) value in
    let text_row = ap (λ vs. parenthesized (part_texts shapes vs)) parts ∙ ap (λ t. value_text t row) same ∙ ap (value_text dtype) value in
    record {
      fit = IfOk-weaker c.push_fields.result _ _ (λ fit is. is ∙ fits_row) c.push_fields.ensures.fit;
      text = IfOk-weaker c.push_fields.result _ _ (λ fit put is. put is ∙ ap (λ l. string_bytes c.args.text.now ++ l) text_row) c.push_fields.ensures.text;
    }

pub push_fields-returns-then-dtypes-parts-clause-fit : goal.push_fields-returns-then-dtypes-parts-clause-fit
push_fields-returns-then-dtypes-parts-clause-fit t c =
    other_count c.args.dtypes.now (map item_value c.args.parts.now) (λ same. c.if-dtypes-parts.true (same ∙ length-map c.args.parts.now item_value))

pub push_fields-returns-then-not-fit-clause-fit : goal.push_fields-returns-then-not-fit-clause-fit
push_fields-returns-then-not-fit-clause-fit t c =
    let ds = c.args.dtypes.now in
    let xs = c.args.parts.now in
    let k = c.loop-k.k in
    let dtype = c.index-dtypes-k.result in
    let inside = c.loop-k-test.true in
    let there = get_or-map item_value xs k c.index-parts-k.result Null inside ∙ ap item_value (sym c.index-parts-k.is) in
    let fails = ap (fits (shape_of (get_or ds k dtype))) there ∙ ap (λ d. fits (shape_of d) (item_value c.index-parts-k.result)) (sym c.index-dtypes-k.is) ∙ sym c.in_ok-fit.ensures.fit ∙ c.if-not-fit.true in
    fields_fail ds (map item_value xs) k dtype Null (omega (arith, inside, c.if-dtypes-parts.false)) (rw length-map inside) fails

pub push_fields-loop-k-preserved : goal.push_fields-loop-k-preserved
push_fields-loop-k-preserved t c =
    let part = c.index-parts-k.result in
    let dtype = c.index-dtypes-k.result in
    let ds = c.args.dtypes.now in
    let xs = c.args.parts.now in
    let k = c.loop-k.k in
    let inside = c.loop-k-test.true in
    let within : k < length ds = omega (arith, inside, c.if-dtypes-parts.false) in
    let grown = map_more item_value xs k part inside ∙ ap (λ x. map item_value (take k xs) ++ item_value x ∷ []) (sym c.index-parts-k.is) in
    let types = take_more ds k dtype within ∙ ap (λ d. take k ds ++ d ∷ []) (sym c.index-dtypes-k.is) in
    let long : length (take k ds) ≡ k = rw length-take (omega (arith, within)) in
    let many : length (map item_value (take k xs)) ≡ k = rw (length-map, length-take) (omega (arith, inside)) in
    let same : length (take k ds) ≡ length (map item_value (take k xs)) = long ∙ sym many in
    let fit = sym c.in_ok-fit.ensures.fit ∙ c.if-not-fit.false in
    let both = ap (λ l. fields_fit (shapes_of (map shape_of l)) (values_of (map item_value (take (k + 1) xs)))) types ∙ ap (λ l. fields_fit (shapes_of (map shape_of (take k ds ++ dtype ∷ []))) (values_of l)) grown in
    let texts = ap (λ l. part_texts (shapes_of (map shape_of l)) (values_of (map item_value (take (k + 1) xs)))) types ∙ ap (λ l. part_texts (shapes_of (map shape_of (take k ds ++ dtype ∷ []))) (values_of l)) grown
    ∙ parts_more (take k ds) (map item_value (take k xs)) dtype (item_value part) same in
    let count = parts_count (take k ds) (map item_value (take k xs)) same ∙ long in (
      both ∙ fields_more (take k ds) (map item_value (take k xs)) dtype (item_value part) same c.loop-k.invariant.0 fit,
      elim c.if-k-gt0.branch [
        | push_fields-then-k-gt0+in_ok-push-2 w ↦ opened_more _ _ _ _ _ _ 40 _ _ _ (omega (arith, count, w.if-k-gt0.true)) texts c.loop-k.invariant.1
            (ap string_bytes w.text-is) w.in_ok-push-2.ensures.bytes (w.in_ok-push-2.ensures.ascii (lit< tt)) (c.in_ok-fit.ensures.text c.if-not-fit.false)
        | push_fields-else-k-gt0 w ↦ opened_first _ _ _ 40 _ _ _ (omega (arith, count, w.if-k-gt0.false)) texts (ap string_bytes w.text-is ∙ c.loop-k.invariant.1) (c.in_ok-fit.ensures.text c.if-not-fit.false)
      ],
    )
