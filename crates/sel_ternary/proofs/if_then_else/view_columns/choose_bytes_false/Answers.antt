use Rattle.sel_ternary.proofs.Common.{◌≡◌, ◌∙◌, ◌++◌, ◌+◌, subst, length, ap, None, err_from_is_err_and}
use Rattle.sel_ternary.proofs.Common.{view_value, broadcast_false, IsLimitOrMemory, ExceedsNone, ExceedsViews, scalar_buffers}
use Rattle.sel_ternary.proofs.Validities.{choice_covers, length-choose_or_one, no_validity, side_covers, side_long}
use Rattle.sel_ternary.proofs.if_then_else.view_columns.choose_bytes_false.Goals as goal

pub invariant_of-result-clause-validity_fits : goal.invariant_of-result-clause-validity_fits
invariant_of-result-clause-validity_fits c =
    let a = c.args.if_true.now in
    let bytes = c.args.if_false.now in
    let ms = c.args.mask.now.bits in
    let p = side_long (view_value a.buffers) ms a.views a.validity c.requires in
    let x = c.new_from_bytes-view.result in
    let out : c.in_ok-views.views ≡ broadcast_false ms a.views x = c.in_ok-views.ensures.items ∙ ap (λ l. broadcast_false ms l x) c.as_slice.ensures in
    let long : length c.in_ok-views.views ≡ length ms = ap length out ∙ length-choose_or_one ms a.views x p in
    choice_covers ms _ None c.in_ok-validity.validity c.in_ok-views.views long (side_covers (view_value a.buffers) ms a.views a.validity _ a.validity_fits c.requires c.as_ref.ensures.value) (no_validity (length ms)) c.in_ok-validity.ensures.value

pub returns-clause-buffers : goal.returns-clause-buffers
returns-clause-buffers c = c.in_ok-buffers.ensures.buffers ∙ (λ i. c.as_slice-2.ensures i ++ scalar_buffers c.args.if_false.now)

pub returns-clause-within : goal.returns-clause-within
returns-clause-within c = subst ExceedsNone (λ i. ExceedsViews ((c.len-before.ensures i) + (c.count_of_scalar.ensures.count i)) (length c.args.if_false.now)) c.in_ok-check_limits.ensures.within

pub returns-in_err-check_limits-clause-refusal : goal.returns-in_err-check_limits-clause-refusal
returns-in_err-check_limits-clause-refusal c =
    let p = err_from_is_err_and c.from_residual.result c.from_residual.ensures.1 in
    rw (p.1, p.2) (subst (λ past. IsLimitOrMemory past c.in_err-check_limits.field-0.0) (λ i. ExceedsViews ((c.len-before.ensures i) + (c.count_of_scalar.ensures.count i)) (length c.args.if_false.now)) c.in_err-check_limits.ensures.refusal)
