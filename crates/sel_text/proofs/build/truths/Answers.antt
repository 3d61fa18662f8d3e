use Rattle.std.proofs.Common.{ap, sym, ◌∙◌, length, map, Bor, arith, take_all}
use Rattle.sel_text.proofs.Common.{length-map, push_more, Bits, masked, of_boolean, Truth, item_value, bool_stored, Item, rows_read, all_items}
use Rattle.sel_text.proofs.{Shown.rows_count, Shown.truths_shown, Refusals.flat_told, Refusals.makes_told, Within.rows_few, RowRuns.count_rows, RowRuns.next_of}
use Rattle.sel_text.proofs.build.truths.Goals as goal

pub loop-preserved : goal.loop-preserved
loop-preserved c =
    let next = next_of (all_items c.args.items.now) c.loop.counter c.next.result _ (sym c.loop.invariant.0 ∙ c.next.ensures) in
    let stored = λ (item : Bor Item). bool_stored c.args.beneath (item_value item.now) in
    (next.others, push_more stored _ _ _ c.loop.counter c.next.result _ next.inside next.is c.boolean_in.ensures c.in_ok-push.ensures.items c.loop.invariant.1)

pub returns-in_err-try_new : goal.returns-in_err-try_new
returns-in_err-try_new c = λ fit.
    let items = all_items c.args.items.now in
    let stored = λ (item : Bor Item). bool_stored c.args.beneath (item_value item.now) in
    let counted = c.in_ok-count.ensures.count ∙ count_rows c.args.items.now in
    let bits = ap (λ (b : Bits). b.bits) c.in_ok-values-2.ensures.value ∙ c.deref.ensures.value ∙ c.loop.invariant.1 ∙ ap (map stored) (take_all c.loop.counter items (omega (arith, counted))) in
    let count = ap length bits ∙ length-map items stored ∙ sym (rows_count items) in
    makes_told c.args.beneath of_boolean (rows_read items) c.from_residual-in_err-try_new.result c.in_err-try_new.field-0.0 c.from_residual-in_err-try_new.ensures.1
    (flat_told c.args.beneath of_boolean (rows_read items) _ _ c.in_err-try_new.field-0.0 count c.in_ok-validity_of.ensures.covers c.in_err-try_new.ensures.refused)

pub returns : goal.returns
returns c = λ fit.
    let items = all_items c.args.items.now in
    let column = c.in_ok-try_new.field-0 in
    let stored = λ (item : Bor Item). bool_stored c.args.beneath (item_value item.now) in
    let counted = c.in_ok-count.ensures.count ∙ count_rows c.args.items.now in
    let bits = ap (λ (b : Bits). b.bits) (c.in_ok-try_new.ensures.values ∙ c.in_ok-values-2.ensures.value) ∙ c.deref.ensures.value ∙ c.loop.invariant.1 ∙ ap (map stored) (take_all c.loop.counter items (omega (arith, counted))) in
    let made = c.into_ref.ensures.rows ∙ ap (λ l. masked column.validity (map Truth l)) bits ∙ ap (λ v. masked v (map Truth (map stored items))) c.in_ok-try_new.ensures.validity
    ∙ c.in_ok-validity_of.ensures.hides (map Truth (map stored items)) (truths_shown c.args.beneath items fit) in
    (c.into_ref.ensures.dtype, made, rows_few c.into_ref.result (rows_read items) made)
