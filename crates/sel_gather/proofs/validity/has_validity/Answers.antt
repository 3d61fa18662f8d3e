use Rattle.sel_gather.proofs.Common.{Bor, None, ap, subst, option_copied, All-more, IsValidityOf, rows, type_of, Column}
use Rattle.sel_gather.proofs.validity.has_validity.Goals as goal

pub loop-source-preserved : goal.loop-source-preserved
loop-source-preserved c =
    let is_valid = λ (x : Bor Column). IsValidityOf (type_of x.now) None (rows x.now) in
    let column = c.source-item.result.now in
    let here = subst (λ v. IsValidityOf (type_of column) v (rows column)) (ap option_copied c.in-None.is) c.validity.ensures in
    All-more is_valid c.args.sources.now c.loop-source.source-index c.source-item.result c.loop-source-test.true c.loop-source.invariant (subst is_valid c.source-item.is here)
