use Rattle.sel_ternary.proofs.Common.{◌≡◌, ◌∙◌, ◌+◌, ◌≤◌, sym, ap, arith, length, take, drop, replicate, length-replicate}
use Rattle.sel_ternary.proofs.Parts.{part_of_repeated}
use Rattle.sel_ternary.specs.SideValues.{side_values}
use Rattle.sel_ternary.proofs.if_then_else.side.Side.part.Goals as goal

pub returns-in-Scalar : goal.returns-in-Scalar
returns-in-Scalar g c =
    let at = c.args.at in
    let count = c.args.count in
    let len = c.in-Scalar.field-1 in
    let value = c.in-Scalar.value in
    let is : side_values c.args.self.now ≡ replicate len value = ap side_values c.in-Scalar.is in
    let within : at + count ≤ len = omega (arith, c.requires, ap length is, length-replicate len value) in
    sym (part_of_repeated len at count value within) ∙ ap (λ l. take count (drop at l)) (sym is)
