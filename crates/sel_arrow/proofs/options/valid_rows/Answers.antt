use Rattle.std.proofs.Common.{◌∙◌, ap, arith, map, is_some}
use Rattle.std.proofs.lemmas.{List.take_all, Result.IfOk-weaker}
use Rattle.sel_bits.specs.Bits.{Bits}
use Rattle.sel_arrow.proofs.Lists.{push_more}
use Rattle.sel_arrow.proofs.options.valid_rows.Goals as goal

pub loop-row-preserved : goal.loop-row-preserved
loop-row-preserved g c = push_more _ _ _ _ c.loop-row.row-index c.row-item.result _ c.loop-row-test.true c.row-item.is c.is_some.ensures c.in_ok-push.ensures.items c.loop-row.invariant

pub returns-clause-bits : goal.returns-clause-bits
returns-clause-bits g c =
    let all = ap (map is_some) (take_all c.loop-row.row-index c.args.rows.now (omega (arith, c.loop-row-test.false, c.loop-row.auto.row-index-end))) in
    IfOk-weaker c.from_bools.result _ _ (λ b is. ap (λ (b : Bits). b.bits) is ∙ c.deref.ensures.value ∙ c.loop-row.invariant ∙ all) c.from_bools.ensures.value
