use Rattle.std.proofs.Common.{◌≡◌, true, length, ap, refl, ◌∙◌}
use Rattle.sel_text.proofs.Common.{or_from, binview_rows, of_utf8_view, all_text, rows_repeated, rows, view_rows, all_placed_bytes, exceeds_max}
use Rattle.sel_text.proofs.{Refusals.makes_told, Refusals.never_broken, Refusals.no_text_fault, Refusals.texts_fit, Within.rows_few}
use Rattle.sel_text.proofs.build.texts.Goals as goal

pub returns-in_err-try_new : goal.returns-in_err-try_new
returns-in_err-try_new c = λ fit.
    let array = c.in_ok-views.field-0 in
    let rows = rows_repeated c.args.items.now in
    let texts : all_text (binview_rows array) ≡ true = ap all_text (c.in_ok-views.ensures.views of_utf8_view refl fit) ∙ texts_fit rows fit in
    makes_told c.args.beneath of_utf8_view rows c.from_residual-in_err-try_new.result c.in_err-try_new.field-0.0 c.from_residual-in_err-try_new.ensures.1
    (λ fault told. never_broken _ c.in_err-try_new.field-0.0 (no_text_fault array texts) c.in_err-try_new.ensures.refused)

pub returns : goal.returns
returns c = λ fit.
    let items = c.args.items.now in
    let array = c.in_ok-views.field-0 in
    let column = c.in_ok-try_new.field-0 in
    let made = c.in_ok-try_new.ensures in
    let are : rows c.into_ref.result.column ≡ rows_repeated items =
    c.into_ref.ensures.rows ∙ ap (λ v. view_rows v column.bytes.buffers column.bytes.validity) made.views ∙ ap (λ b. view_rows array.views b column.bytes.validity) made.buffers
    ∙ ap (view_rows array.views array.buffers) made.validity ∙ c.in_ok-views.ensures.views of_utf8_view refl fit in
    (c.into_ref.ensures.dtype, are, or_from (exceeds_max (length (rows_repeated items))) (exceeds_max (all_placed_bytes (rows_repeated items))) (rows_few c.into_ref.result (rows_repeated items) are) (c.in_ok-views.ensures.within of_utf8_view refl fit))
