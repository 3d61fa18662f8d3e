use Rattle.sel_ternary.proofs.Common.{ℕ, ◌+◌, List, length, arith, subst, Bytes, ExceedsNone, few_rows_pass, passes_neither, broadcast_both, scalar_buffers}
use Rattle.sel_ternary.proofs.Common.{ExceedsViews, IfOk-weaker}
use Rattle.sel_gather.specs.Need.{ExceedsRows}
use Rattle.std.specs.{Prelude.IfOk, Prelude.max, Vec.vec_items}
use Rattle.sel_ternary.proofs.Validities.{length-choose_of_two}
use Rattle.sel_ternary.proofs.if_then_else.binview.BinaryViewArrayIfThenElseKernel.if_then_else_broadcast_both.Goals as goal

pub returns-clause-within : goal.returns-clause-within
returns-clause-within c =
    let a = vec_items c.args.if_true.now in
    let b = vec_items c.args.if_false.now in
    let views = λ (x y : List ℕ). ExceedsNone (ExceedsViews (length (scalar_buffers x) + length (scalar_buffers y)) (max (length x) (length y))) in
    let given = subst (λ x. IfOk c.choose_bytes.result (λ _. views x b)) c.as_slice.ensures.value (subst (λ y. IfOk c.choose_bytes.result (λ _. views c.as_slice.result.now y)) c.as_slice-2.ensures.value c.choose_bytes.ensures.within) in
    let vs = broadcast_both c.args.mask.now.bits (Bytes a) (Bytes b) in
    let few = few_rows_pass (length vs) (omega (arith, length-choose_of_two c.args.mask.now.bits (Bytes a) (Bytes b), c.len.ensures, c.if-len-gt-MOST_ROWS.false)) in
    IfOk-weaker c.choose_bytes.result _ _ (λ _. passes_neither (ExceedsRows (length vs)) (ExceedsViews (length (scalar_buffers a) + length (scalar_buffers b)) (max (length a) (length b))) few) given
