use Rattle.std.proofs.lemmas.Result.{IfOk-at_ok}
use Rattle.sel_ternary.proofs.Common.{sym, ◌∙◌, broadcast_false, column, scalar, first_row}
use Rattle.sel_ternary.proofs.ListChoices.{answered_choice, refused_choice}
use Rattle.sel_ternary.proofs.if_then_else.lists.choose_lists_or_one.Goals as goal

pub returns-clause-within : goal.returns-clause-within
returns-clause-within g c =
    answered_choice _ g.L.Lists.child _ (column c.args.if_true.now) (scalar c.args.if_false.now) _ _ (IfOk-at_ok _ c.in_ok-pair.ensures.found.0 c.shared.ensures.dtype) ((IfOk-at_ok _ c.in_ok-pair.ensures.found.1 c.of_one.ensures.dtype) ∙ sym c.requires.fits) (IfOk-at_ok _ c.in_ok-pair.ensures.found.0 c.shared.ensures.below) (IfOk-at_ok _ c.in_ok-pair.ensures.found.1 c.of_one.ensures.below) _ _
    (λ i. broadcast_false c.args.mask.now.bits (IfOk-at_ok _ c.in_ok-pair.ensures.found.0 c.shared.ensures.rows i) (first_row (IfOk-at_ok _ c.in_ok-pair.ensures.found.1 c.of_one.ensures.rows i)))
    (λ _ past. past) c.choose_shared.ensures.within

pub returns-clause-refusal : goal.returns-clause-refusal
returns-clause-refusal g c =
    refused_choice _ g.L.Lists.child _ (column c.args.if_true.now) (scalar c.args.if_false.now) _ _ (IfOk-at_ok _ c.in_ok-pair.ensures.found.0 c.shared.ensures.dtype) ((IfOk-at_ok _ c.in_ok-pair.ensures.found.1 c.of_one.ensures.dtype) ∙ sym c.requires.fits) (IfOk-at_ok _ c.in_ok-pair.ensures.found.0 c.shared.ensures.below) (IfOk-at_ok _ c.in_ok-pair.ensures.found.1 c.of_one.ensures.below) _ _
    (λ i. broadcast_false c.args.mask.now.bits (IfOk-at_ok _ c.in_ok-pair.ensures.found.0 c.shared.ensures.rows i) (first_row (IfOk-at_ok _ c.in_ok-pair.ensures.found.1 c.of_one.ensures.rows i)))
    c.choose_shared.ensures.refusal
