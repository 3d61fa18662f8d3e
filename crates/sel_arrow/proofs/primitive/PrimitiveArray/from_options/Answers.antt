use Rattle.std.proofs.Common.{◌∙◌, map}
use Rattle.sel_arrow.proofs.Common.{hidden, Number}
use Rattle.sel_arrow.proofs.RowOptions.{number_options}
use Rattle.sel_arrow.proofs.primitive.PrimitiveArray.from_options.Goals as goal

pub returns-in-Ok-clause-rows : goal.returns-in-Ok-clause-rows
returns-in-Ok-clause-rows g c =
    let items = c.in-Ok.ensures.items ∙ c.in-Ok-Ok.ensures.items in
    (λ i. hidden (c.in-Ok-Ok.ensures'.bits i) (map (λ x. Number (g.T.NativeType.number x)) (items i))) ∙ number_options g.T.NativeType.number c.LEAST.result c.args.rows.now
