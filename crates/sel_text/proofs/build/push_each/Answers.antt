use Rattle.std.proofs.Common.{ap, append_assoc, Bor, map, sym, take, ◌++◌, ◌∙◌, ◌∷◌, []}
use Rattle.sel_text.proofs.Common.{Item, item_value, map-append, map_more, rows_read}
use Rattle.sel_text.proofs.build.push_each.Goals as goal

pub loop-entry-preserved : goal.loop-entry-preserved
loop-entry-preserved c =
    let entry = c.entry-item.result in
    let old = rows_read c.args.entries.now.items in
    let before = map item_value (take c.loop-entry.entry-index c.args.list.now) in
    ap rows_read c.in_ok-push.ensures.items ∙ map-append (λ (item : Bor Item). item_value item.now) c.loop-entry.entries.items _ ∙ ap (λ l. l ++ item_value entry ∷ []) c.loop-entry.invariant ∙ append_assoc old before (item_value entry ∷ [])
    ∙ ap (λ l. old ++ l) (ap (λ x. before ++ item_value x ∷ []) c.entry-item.is ∙ sym (map_more item_value c.args.list.now c.loop-entry.entry-index entry c.loop-entry-test.true))
