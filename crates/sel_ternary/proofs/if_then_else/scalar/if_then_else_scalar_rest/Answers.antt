use Rattle.sel_ternary.proofs.Common.{◌≡◌, length, refl, arith, if◌then◌else◌, is_set}
use Rattle.sel_ternary.proofs.Chosen.{bit_takes_first, bit_takes_second, all_rows, chosen_row}
use Rattle.sel_ternary.proofs.if_then_else.scalar.if_then_else_scalar_rest.Goals as goal
use Rattle.sel_ternary.proofs.if_then_else.scalar.if_then_else_scalar_rest.Goals.{then-mask-i-eq1, else-mask-i-eq1}

pub loop-i-preserved : goal.loop-i-preserved
loop-i-preserved g c =
    let chosen_is : c.if-mask-i-eq1.out ≡ (if is_set c.args.mask c.loop-i.i then c.index-if_true-i.result else c.index-if_false-i.result) =
    elim c.if-mask-i-eq1.branch [
      | then-mask-i-eq1 w ↦ bit_takes_first c.args.mask c.loop-i.i _ _ c.if-mask-i-eq1.out w.if-mask-i-eq1.true w.out-is
      | else-mask-i-eq1 w ↦ bit_takes_second c.args.mask c.loop-i.i _ _ c.if-mask-i-eq1.out w.if-mask-i-eq1.false w.out-is
    ]
    in
    chosen_row (length c.args.out.now) c.args.mask c.args.if_true.now c.args.if_false.now c.args.out.now c.loop-i.out c.loop-i.i
    c.index-if_true-i.result c.index-if_false-i.result c.if-mask-i-eq1.out
    (record { trues = c.requires.true_side; falses = c.requires.false_side; places = c.loop-i.auto.out })
    c.loop-i-test.true c.loop-i.invariant c.index-if_true-i.is c.index-if_false-i.is chosen_is

pub returns : goal.returns
returns g c =
    all_rows (length c.args.out.now) c.args.mask c.args.out.now c.loop-i.out c.loop-i.i refl (omega arith)
    c.args.if_true.now c.args.if_false.now c.requires.true_side c.requires.false_side c.loop-i.invariant
