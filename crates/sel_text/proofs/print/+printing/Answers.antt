use Rattle.std.proofs.Common.{◌∙◌, ◌++◌, ◌≡◌, ap, lit<, arith, take, map, length, length-take, string_bytes}
use Rattle.sel_text.proofs.Common.{map_more, length-map, on_ok_weaker, rows, type_of, Null, value_text, field_text}
use Rattle.sel_text.proofs.Printed.{opened_first, opened_more, texts_more, texts_count, list_text, tuple_text}
use Rattle.sel_text.proofs.print.+printing.Goals as goal
use Rattle.sel_text.proofs.print.+printing.Goals.{push_items-then-i-start+in_ok-push-2, push_items-else-i-start, push_parts-then-k-gt0+in_ok-push-2, push_parts-else-k-gt0}

pub push_items-loop-i-preserved : goal.push_items-loop-i-preserved
push_items-loop-i-preserved t c =
    let more = texts_more (value_text (type_of c.args.column.now)) (rows c.args.column.now) c.args.start c.loop-i.i Null (omega arith) (omega (arith, c.requires.inside)) in
    let count = texts_count (value_text (type_of c.args.column.now)) (rows c.args.column.now) c.args.start c.loop-i.i (omega (arith, c.requires.inside)) in
    elim c.if-i-start.branch [
      | push_items-then-i-start+in_ok-push-2 w ↦ opened_more _ _ _ _ _ _ 91 _ _ _ (omega (arith, count, w.if-i-start.true)) more c.loop-i.invariant
          (ap string_bytes w.text-is) w.in_ok-push-2.ensures.bytes (w.in_ok-push-2.ensures.ascii (lit< tt)) c.in_ok-push_row.ensures
      | push_items-else-i-start w ↦ opened_first _ _ _ 91 _ _ _ (omega (arith, count, w.if-i-start.false)) more (ap string_bytes w.text-is ∙ c.loop-i.invariant) c.in_ok-push_row.ensures
    ]

pub push_parts-loop-k-preserved : goal.push_parts-loop-k-preserved
push_parts-loop-k-preserved t c =
    let more = map_more (field_text c.args.place) c.args.fields.now c.loop-k.k c.index-fields-k.result (omega arith) in
    let count : length (map (field_text c.args.place) (take c.loop-k.k c.args.fields.now)) ≡ c.loop-k.k = rw (length-map, length-take) (omega arith) in
    let row = c.in_ok-push_row.ensures ∙ ap (λ field. string_bytes c.if-k-gt0.text ++ field_text c.args.place field) c.index-fields-k.is in
    elim c.if-k-gt0.branch [
      | push_parts-then-k-gt0+in_ok-push-2 w ↦ opened_more _ _ _ _ _ _ 40 _ _ _ (omega (arith, count, w.if-k-gt0.true)) more c.loop-k.invariant
          (ap string_bytes w.text-is) w.in_ok-push-2.ensures.bytes (w.in_ok-push-2.ensures.ascii (lit< tt)) row
      | push_parts-else-k-gt0 w ↦ opened_first _ _ _ 40 _ _ _ (omega (arith, count, w.if-k-gt0.false)) more (ap string_bytes w.text-is ∙ c.loop-k.invariant) row
    ]

pub push_row-returns-in-Items : goal.push_row-returns-in-Items
push_row-returns-in-Items t c =
    on_ok_weaker c.push_items.result (λ put. put ∙ ap (λ l. string_bytes c.args.text.now ++ l) (list_text (type_of c.args.column.now) _ _ _ c.in-Items.ensures.value c.in-Items.ensures.kind)) c.push_items.ensures

pub push_row-returns-in-Parts : goal.push_row-returns-in-Parts
push_row-returns-in-Parts t c =
    on_ok_weaker c.push_parts.result (λ put. put ∙ ap (λ l. string_bytes c.args.text.now ++ l) (tuple_text (type_of c.args.column.now) _ _ _ c.in-Parts.ensures.value c.in-Parts.ensures.kind)) c.push_parts.ensures
