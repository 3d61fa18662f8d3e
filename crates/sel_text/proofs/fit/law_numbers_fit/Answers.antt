use Rattle.sel_text.proofs.FittingRows.{numbers_read}
use Rattle.sel_text.proofs.fit.law_numbers_fit.Goals as goal

pub returns : goal.returns
returns g c =
    numbers_read g.T.FitsShape.shape g.T.NativeType.number _ _ c.args.array.now.validity c.loop-value.value-index c.as_slice-values.ensures c.loop-value-test.false c.loop-value.invariant
