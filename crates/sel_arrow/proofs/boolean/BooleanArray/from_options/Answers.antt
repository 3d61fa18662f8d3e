use Rattle.std.proofs.Common.{◌∙◌, ap, map}
use Rattle.sel_arrow.proofs.Common.{Bits, hidden, Truth}
use Rattle.sel_arrow.proofs.RowOptions.{truth_options}
use Rattle.sel_arrow.proofs.boolean.BooleanArray.from_options.Goals as goal

pub returns-in-Ok-clause-rows : goal.returns-in-Ok-clause-rows
returns-in-Ok-clause-rows c =
    let bits = ap (λ (b : Bits). b.bits) c.in-Ok.ensures.value ∙ c.deref.ensures.value ∙ c.in-Ok-Ok.ensures.items in
    (λ i. hidden (c.in-Ok-Ok.ensures'.bits i) (map Truth (bits i))) ∙ truth_options c.args.rows.now
