use Rattle.std.proofs.Common.{◌∙◌, ap, arith, map, unwrap_or}
use Rattle.std.proofs.lemmas.List.{take_all}
use Rattle.sel_arrow.proofs.Lists.{push_more}
use Rattle.sel_arrow.proofs.options.values_or.Goals as goal

pub loop-row-preserved : goal.loop-row-preserved
loop-row-preserved g c = push_more _ _ _ _ c.loop-row.row-index c.row-item.result _ c.loop-row-test.true c.row-item.is c.unwrap_or.ensures c.in_ok-push.ensures.items c.loop-row.invariant

pub returns-clause-items : goal.returns-clause-items
returns-clause-items g c =
    c.loop-row.invariant ∙ ap (map (λ row. unwrap_or row c.args.hidden)) (take_all c.loop-row.row-index c.args.rows.now (omega (arith, c.loop-row-test.false, c.loop-row.auto.row-index-end)))
