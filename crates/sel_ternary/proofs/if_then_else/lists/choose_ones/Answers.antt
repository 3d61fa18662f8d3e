use Rattle.std.proofs.lemmas.Result.{IfOk-at_ok}
use Rattle.sel_ternary.proofs.Common.{arith, ap, length, sym, ◌∙◌, rows, few_rows_pass, broadcast_both, scalar, first_row}
use Rattle.sel_arrow.specs.Nested.{list_of}
use Rattle.sel_ternary.proofs.{ListChoices.answered_choice, ListChoices.refused_choice, Validities.length-choose_of_two}
use Rattle.sel_ternary.proofs.if_then_else.lists.choose_ones.Goals as goal

pub returns-clause-within : goal.returns-clause-within
returns-clause-within g c =
    answered_choice _ g.L.Lists.child _ (scalar c.args.if_true.now) (scalar c.args.if_false.now) _ _ (IfOk-at_ok _ c.in_ok-pair.ensures.found.0 c.of_one.ensures.dtype) ((IfOk-at_ok _ c.in_ok-pair.ensures.found.1 c.of_one-2.ensures.dtype) ∙ sym c.requires.alike) (IfOk-at_ok _ c.in_ok-pair.ensures.found.0 c.of_one.ensures.below) (IfOk-at_ok _ c.in_ok-pair.ensures.found.1 c.of_one-2.ensures.below) _ _
    (λ i. broadcast_both c.args.mask.now.bits (first_row (IfOk-at_ok _ c.in_ok-pair.ensures.found.0 c.of_one.ensures.rows i)) (first_row (IfOk-at_ok _ c.in_ok-pair.ensures.found.1 c.of_one-2.ensures.rows i)))
    (few_rows_pass _ (omega (arith, length-choose_of_two c.args.mask.now.bits (list_of (rows c.args.if_true.now.column)) (list_of (rows c.args.if_false.now.column)), c.len.ensures, c.if-len-gt-MOST_ROWS.false))) c.choose_shared.ensures.within

pub returns-clause-refusal : goal.returns-clause-refusal
returns-clause-refusal g c =
    refused_choice _ g.L.Lists.child _ (scalar c.args.if_true.now) (scalar c.args.if_false.now) _ _ (IfOk-at_ok _ c.in_ok-pair.ensures.found.0 c.of_one.ensures.dtype) ((IfOk-at_ok _ c.in_ok-pair.ensures.found.1 c.of_one-2.ensures.dtype) ∙ sym c.requires.alike) (IfOk-at_ok _ c.in_ok-pair.ensures.found.0 c.of_one.ensures.below) (IfOk-at_ok _ c.in_ok-pair.ensures.found.1 c.of_one-2.ensures.below) _ _
    (λ i. broadcast_both c.args.mask.now.bits (first_row (IfOk-at_ok _ c.in_ok-pair.ensures.found.0 c.of_one.ensures.rows i)) (first_row (IfOk-at_ok _ c.in_ok-pair.ensures.found.1 c.of_one-2.ensures.rows i)))
    c.choose_shared.ensures.refusal

pub choose_shared-requires : goal.choose_shared-requires
choose_shared-requires g c = record {
  kind = (IfOk-at_ok _ c.in_ok-pair.ensures.found.0 c.of_one.ensures.kind);
  sides = record {
    alike = (IfOk-at_ok _ c.in_ok-pair.ensures.found.0 c.of_one.ensures.dtype) ∙ c.requires.alike ∙ sym (IfOk-at_ok _ c.in_ok-pair.ensures.found.1 c.of_one-2.ensures.dtype);
    true_side = ap length (IfOk-at_ok _ c.in_ok-pair.ensures.found.0 c.of_one.ensures.rows);
    false_side = ap length (IfOk-at_ok _ c.in_ok-pair.ensures.found.1 c.of_one-2.ensures.rows);
    few = omega (arith, c.len.ensures, c.if-len-gt-MOST_ROWS.false);
  };
}

pub returns-clause-rows : goal.returns-clause-rows
returns-clause-rows g c = rw ((IfOk-at_ok _ c.in_ok-pair.ensures.found.0 c.of_one.ensures.rows), (IfOk-at_ok _ c.in_ok-pair.ensures.found.1 c.of_one-2.ensures.rows)) at c.choose_shared.ensures.rows

pub returns-clause-dtype : goal.returns-clause-dtype
returns-clause-dtype g c = rw (IfOk-at_ok _ c.in_ok-pair.ensures.found.0 c.of_one.ensures.dtype) at c.choose_shared.ensures.dtype
