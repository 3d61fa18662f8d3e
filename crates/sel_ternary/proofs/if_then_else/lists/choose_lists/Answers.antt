use Rattle.std.proofs.lemmas.Result.{IfOk-at_ok}
use Rattle.sel_ternary.proofs.{Common.sym, Common.◌∙◌, Common.choose, Common.column, ListChoices.answered_choice, ListChoices.refused_choice}
use Rattle.sel_ternary.proofs.if_then_else.lists.choose_lists.Goals as goal

pub returns-clause-within : goal.returns-clause-within
returns-clause-within g c =
    answered_choice _ g.L.Lists.child _ (column c.args.if_true.now) (column c.args.if_false.now) _ _ (IfOk-at_ok _ c.in_ok-pair.ensures.found.0 c.shared.ensures.dtype) ((IfOk-at_ok _ c.in_ok-pair.ensures.found.1 c.shared-2.ensures.dtype) ∙ sym c.requires.alike) (IfOk-at_ok _ c.in_ok-pair.ensures.found.0 c.shared.ensures.below) (IfOk-at_ok _ c.in_ok-pair.ensures.found.1 c.shared-2.ensures.below) _ _
    (λ i. choose c.args.mask.now.bits (IfOk-at_ok _ c.in_ok-pair.ensures.found.0 c.shared.ensures.rows i) (IfOk-at_ok _ c.in_ok-pair.ensures.found.1 c.shared-2.ensures.rows i))
    (λ _ past. past) c.choose_shared.ensures.within

pub returns-clause-refusal : goal.returns-clause-refusal
returns-clause-refusal g c =
    refused_choice _ g.L.Lists.child _ (column c.args.if_true.now) (column c.args.if_false.now) _ _ (IfOk-at_ok _ c.in_ok-pair.ensures.found.0 c.shared.ensures.dtype) ((IfOk-at_ok _ c.in_ok-pair.ensures.found.1 c.shared-2.ensures.dtype) ∙ sym c.requires.alike) (IfOk-at_ok _ c.in_ok-pair.ensures.found.0 c.shared.ensures.below) (IfOk-at_ok _ c.in_ok-pair.ensures.found.1 c.shared-2.ensures.below) _ _
    (λ i. choose c.args.mask.now.bits (IfOk-at_ok _ c.in_ok-pair.ensures.found.0 c.shared.ensures.rows i) (IfOk-at_ok _ c.in_ok-pair.ensures.found.1 c.shared-2.ensures.rows i))
    c.choose_shared.ensures.refusal
