use Rattle.std.{proofs.Common.ap, proofs.Common.sym, proofs.Common.◌∙◌, proofs.Common.arith, specs.Borrow.Bor}
use Rattle.sel_text.proofs.Common.{list_all, is_valid, item_value, Item, push_more, take_all, Bits, all_items}
use Rattle.sel_text.proofs.{Shown.items_hidden, Shown.items_shown, Shown.valid_items, RowRuns.count_rows, RowRuns.next_of}
use Rattle.sel_text.proofs.build.validity_of.Goals as goal

pub loop-preserved : goal.loop-preserved
loop-preserved c =
    let next = next_of (all_items c.args.items.now) c.loop.counter c.next.result _ (sym c.loop.invariant.0 ∙ c.next.ensures) in
    (next.others, push_more (λ (item : Bor Item). is_valid (item_value item.now)) _ _ _ c.loop.counter c.next.result _ next.inside next.is c.is_filled.ensures c.in_ok-push.ensures.items c.loop.invariant.1)

pub returns-then-all_true-clause-hides : goal.returns-then-all_true-clause-hides
returns-then-all_true-clause-hides c =
    let counted = c.in_ok-count.ensures.count ∙ count_rows c.args.items.now in
    let all = ap valid_items (take_all c.loop.counter (all_items c.args.items.now) (omega (arith, counted))) in
    items_shown (all_items c.args.items.now) c.loop.valid.items (c.loop.invariant.1 ∙ all) (ap (list_all (λ b. b)) (sym c.deref.ensures.value) ∙ sym c.all_true.ensures ∙ c.if-all_true.true)

pub returns-clause-hides : goal.returns-clause-hides
returns-clause-hides c =
    let counted = c.in_ok-count.ensures.count ∙ count_rows c.args.items.now in
    let all = ap valid_items (take_all c.loop.counter (all_items c.args.items.now) (omega (arith, counted))) in
    let bits = ap (λ (b : Bits). b.bits) c.in_ok-from_bools.ensures.value in
    items_hidden (all_items c.args.items.now) c.in_ok-from_bools.field-0.bits (bits ∙ c.deref-2.ensures.value ∙ c.loop.invariant.1 ∙ all)
