use Rattle.sel_ternary.proofs.Common.{◌≡◌, length, replicate, refl, arith, length-replicate, if◌then◌else◌, is_set}
use Rattle.sel_ternary.proofs.Chosen.{bit_takes_first, bit_takes_second, all_rows_of_two, chosen_row, repeated_at}
use Rattle.sel_ternary.proofs.if_then_else.scalar.if_then_else_broadcast_both_scalar_rest.Goals as goal
use Rattle.sel_ternary.proofs.if_then_else.scalar.if_then_else_broadcast_both_scalar_rest.Goals.{then-mask-i-eq1, else-mask-i-eq1}

pub loop-i-preserved : goal.loop-i-preserved
loop-i-preserved g c =
    let n = length c.args.out.now in
    let x = c.args.if_true in
    let y = c.args.if_false in
    let chosen_is : c.if-mask-i-eq1.out ≡ (if is_set c.args.mask c.loop-i.i then x else y) =
    elim c.if-mask-i-eq1.branch [
      | then-mask-i-eq1 w ↦ bit_takes_first c.args.mask c.loop-i.i _ _ c.if-mask-i-eq1.out w.if-mask-i-eq1.true w.out-is
      | else-mask-i-eq1 w ↦ bit_takes_second c.args.mask c.loop-i.i _ _ c.if-mask-i-eq1.out w.if-mask-i-eq1.false w.out-is
    ]
    in
    chosen_row n c.args.mask (replicate n x) (replicate n y) c.args.out.now c.loop-i.out c.loop-i.i x y c.if-mask-i-eq1.out
    (record { trues = length-replicate n x; falses = length-replicate n y; places = c.loop-i.auto.out })
    c.loop-i-test.true c.loop-i.invariant (repeated_at n c.loop-i.i x c.loop-i-test.true) (repeated_at n c.loop-i.i y c.loop-i-test.true) chosen_is

pub returns : goal.returns
returns g c =
    all_rows_of_two (length c.args.out.now) c.args.mask c.args.out.now c.loop-i.out c.loop-i.i refl (omega arith) c.args.if_true c.args.if_false c.loop-i.invariant
