use Rattle.std.proofs.Common.{◌∙◌, ◌++◌, ◌≡◌, ap, lit<, arith, take, map, length, length-take, append_assoc, string_bytes, codes}
use Rattle.sel_text.proofs.Common.{angled, map_more, length-map, on_ok_weaker}
use Rattle.sel_text.proofs.{Printed.opened_first, Printed.opened_more, TypeTexts.text_of_type, TypeTexts.struct_text}
use Rattle.sel_text.proofs.types.+naming.Goals as goal
use Rattle.sel_text.proofs.types.+naming.Goals.{push_dtypes-then-k-gt0+in_ok-push-2, push_dtypes-else-k-gt0}

pub push_dtypes-loop-k-preserved : goal.push_dtypes-loop-k-preserved
push_dtypes-loop-k-preserved t c =
    let more = map_more text_of_type c.args.dtypes.now c.loop-k.k c.index-dtypes-k.result (omega arith) in
    let count : length (map text_of_type (take c.loop-k.k c.args.dtypes.now)) ≡ c.loop-k.k = rw (length-map, length-take) (omega arith) in
    let named = c.in_ok-push_dtype.ensures ∙ ap (λ dtype. string_bytes c.if-k-gt0.text ++ text_of_type dtype) c.index-dtypes-k.is in
    elim c.if-k-gt0.branch [
      | push_dtypes-then-k-gt0+in_ok-push-2 w ↦ opened_more _ _ _ _ _ _ 60 _ _ _ (omega (arith, count, w.if-k-gt0.true)) more c.loop-k.invariant
          (ap string_bytes w.text-is) w.in_ok-push-2.ensures.bytes (w.in_ok-push-2.ensures.ascii (lit< tt)) named
      | push_dtypes-else-k-gt0 w ↦ opened_first _ _ _ 60 _ _ _ (omega (arith, count, w.if-k-gt0.false)) more (ap string_bytes w.text-is ∙ c.loop-k.invariant) named
    ]

pub push_dtype-returns-in_ok-push_str-in-Struct : goal.push_dtype-returns-in_ok-push_str-in-Struct
push_dtype-returns-in_ok-push_str-in-Struct t c =
    on_ok_weaker c.push_dtypes.result (λ put.
    put ∙ ap (λ l. l ++ angled (map text_of_type c.deref-in-Struct.result.now)) c.in_ok-push_str-in-Struct.ensures.bytes
    ∙ append_assoc (string_bytes c.args.text.now) (codes "struct") (angled (map text_of_type c.deref-in-Struct.result.now))
    ∙ ap (λ l. string_bytes c.args.text.now ++ (codes "struct" ++ angled (map text_of_type l))) c.deref-in-Struct.ensures.value
    ∙ ap (λ l. string_bytes c.args.text.now ++ l) (struct_text c.args.dtype.now c.in-Struct.fields c.in-Struct.is)) c.push_dtypes.ensures
