use Rattle.std.proofs.Common.{ap, sym, subst, ◌∙◌, length, map, arith, take_all, pos}
use Rattle.sel_text.proofs.Common.{masked, Number, rows_read, ShowsRows, all_items}
use Rattle.sel_text.proofs.{Refusals.flat_told, Refusals.makes_told, Shown.item_fits, Shown.rows_count, Shown.shown_count, Shown.shown_more}
use Rattle.sel_text.proofs.{Within.numbers_within, Within.rows_few, RowRuns.count_rows, RowRuns.next_of}
use Rattle.sel_text.proofs.build.numbers.Goals as goal

pub loop-preserved : goal.loop-preserved
loop-preserved g c =
    let items = all_items c.args.items.now in
    let next = next_of items c.loop.counter c.next.result _ (sym c.loop.invariant.0 ∙ c.next.ensures) in (
      next.others,
      λ fit.
          let here = item_fits g.T.ArrowPrimitive.shape items c.loop.counter c.next.result fit next.inside next.is in
          shown_more (λ x. Number (g.T.NativeType.number x)) items c.loop.counter c.next.result c.loop.values.items _ _ next.inside next.is (c.loop.invariant.1 fit) (c.number_in.ensures here) c.in_ok-push.ensures.items,
    )

pub returns-in_err-try_new : goal.returns-in_err-try_new
returns-in_err-try_new g c = λ fit.
    let items = all_items c.args.items.now in
    let number = λ (x : _). Number (g.T.NativeType.number x) in
    let counted = c.in_ok-count.ensures.count ∙ count_rows c.args.items.now in
    let shown = subst (λ l. ShowsRows (rows_read l) (map number c.loop.values.items)) (take_all c.loop.counter items (omega (arith, counted))) (c.loop.invariant.1 fit) in
    let count = ap length c.in_ok-values-2.ensures.items ∙ shown_count number items c.loop.values.items shown ∙ sym (rows_count items) in
    makes_told c.args.beneath g.T.ArrowPrimitive.shape (rows_read items) c.from_residual-in_err-try_new.result c.in_err-try_new.field-0.0 c.from_residual-in_err-try_new.ensures.1
    (flat_told c.args.beneath g.T.ArrowPrimitive.shape (rows_read items) (length c.in_ok-values-2.values) c.in_ok-validity_of.field-0 c.in_err-try_new.field-0.0 count c.in_ok-validity_of.ensures.covers c.in_err-try_new.ensures.refused)

pub returns : goal.returns
returns g c = λ fit.
    let items = all_items c.args.items.now in
    let column = c.in_ok-try_new.field-0 in
    let number = λ (x : _). Number (g.T.NativeType.number x) in
    let counted = c.in_ok-count.ensures.count ∙ count_rows c.args.items.now in
    let shown = subst (λ l. ShowsRows (rows_read l) (map number c.loop.values.items)) (take_all c.loop.counter items (omega (arith, counted))) (c.loop.invariant.1 fit) in
    let made = c.into_ref.ensures.rows ∙ ap (λ l. masked column.validity (map number l)) (c.in_ok-try_new.ensures.values ∙ c.in_ok-values-2.ensures.items)
    ∙ ap (λ v. masked v (map number c.loop.values.items)) c.in_ok-try_new.ensures.validity ∙ c.in_ok-validity_of.ensures.hides (map number c.loop.values.items) shown in
    (c.into_ref.ensures.dtype, made, numbers_within c.args.beneath g.T.ArrowPrimitive.shape (pos 0) (rows_read items) c.zero-zero.ensures (rows_few c.into_ref.result (rows_read items) made))
