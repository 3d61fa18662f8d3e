use Rattle.sel_ternary.proofs.Common.{◌≡◌, pos, arith, w64, cast_signed, cast_unsigned, Each1-from_get_or}
use Rattle.sel_ternary.proofs.if_then_else.lanes.show_range_64.Goals as goal

pub returns : goal.returns
returns c = Each1-from_get_or (λ x. cast_signed w64 (cast_unsigned w64 x) ≡ x) c.args.values.now (pos 0) (λ i lt. c.loop-i.invariant i (omega (arith, lt, c.loop-i-test.false)))
