use Rattle.std.proofs.Common.{◌∙◌, ap, map}
use Rattle.sel_c.proofs.Shown.{made-of-same}
use Rattle.sel_c.proofs.calls.wides.wides_of.Goals as goal

pub returns-clause-rows : goal.returns-clause-rows
returns-clause-rows g c =
    made-of-same g.T.NativeType.number g.T.InWords.shown_by c.deref.result.now c.args.words.now c.args.bytes.now c.args.has c.numbers_of.result
    (ap (map g.T.NativeType.number) c.deref.ensures.value ∙ c.in-Ok.ensures.numbers) c.numbers_of.ensures.rows
