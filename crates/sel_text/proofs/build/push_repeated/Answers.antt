use Rattle.std.proofs.Common.{add-one, ap, append_assoc, map, sym, ◌++◌, ◌∙◌}
use Rattle.sel_text.proofs.Common.{item_value, repeated, rows_repeated}
use Rattle.sel_text.proofs.build.push_repeated.Goals as goal

pub loop-preserved : goal.loop-preserved
loop-preserved c =
    let rows = map item_value c.args.list.now in
    let old = rows_repeated c.args.entries.now.items in
    c.in_default.ensures.entries ∙ ap (λ l. l ++ rows) c.loop.invariant ∙ append_assoc old (repeated c.loop.counter rows) rows ∙ ap (λ n. old ++ repeated n rows) (sym (add-one c.loop.counter))
