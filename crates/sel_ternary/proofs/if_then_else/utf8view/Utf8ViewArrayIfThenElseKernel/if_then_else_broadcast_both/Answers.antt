use Rattle.sel_ternary.proofs.Common.{◌∙◌, ℕ, ◌+◌, List, length, inl, arith, subst, Bytes, ExceedsNone, few_rows_pass, passes_neither, broadcast_both}
use Rattle.sel_ternary.proofs.Common.{scalar_buffers, ExceedsViews}
use Rattle.sel_gather.specs.Need.{ExceedsRows}
use Rattle.std.specs.Prelude.{max, string_bytes}
use Rattle.sel_ternary.proofs.Validities.{length-choose_of_two}
use Rattle.sel_ternary.proofs.if_then_else.utf8view.Utf8ViewArrayIfThenElseKernel.if_then_else_broadcast_both.Goals as goal

pub returns-then-len-gt-MOST_ROWS-clause-refusal : goal.returns-then-len-gt-MOST_ROWS-clause-refusal
returns-then-len-gt-MOST_ROWS-clause-refusal c =
    inl (omega (arith, length-choose_of_two c.args.mask.now.bits (Bytes (string_bytes c.args.if_true.now)) (Bytes (string_bytes c.args.if_false.now))))

pub returns-clause-within : goal.returns-clause-within
returns-clause-within c =
    let a = string_bytes c.args.if_true.now in
    let b = string_bytes c.args.if_false.now in
    let views = λ (x y : List ℕ). ExceedsNone (ExceedsViews (length (scalar_buffers x) + length (scalar_buffers y)) (max (length x) (length y))) in
    let given = subst (λ x. views x b) (c.as_bytes-first.ensures.value ∙ c.as_str.ensures.value) (subst (λ y. views c.as_bytes-first.result.now y) (c.as_bytes-second.ensures.value ∙ c.as_str-2.ensures.value) c.in_ok-bytes.ensures.within) in
    let vs = broadcast_both c.args.mask.now.bits (Bytes a) (Bytes b) in
    let few = few_rows_pass (length vs) (omega (arith, length-choose_of_two c.args.mask.now.bits (Bytes a) (Bytes b), c.len.ensures, c.if-len-gt-MOST_ROWS.false)) in
    passes_neither (ExceedsRows (length vs)) (ExceedsViews (length (scalar_buffers a) + length (scalar_buffers b)) (max (length a) (length b))) few given
