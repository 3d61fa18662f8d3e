use Rattle.std.proofs.Common.{arith, subst}
use Rattle.sel_lines.{specs.ListParts.IsReading, proofs.FewItems.few_lists}
use Rattle.sel_lines.proofs.get.answer_get.Goals as goal

pub answer_lists-requires : goal.answer_lists-requires
answer_lists-requires c =
    let kept = subst (IsReading _) c.in-Some.is c.in_ok-lists.ensures in
    (kept.0, kept.2, few_lists _ kept.0 (c.requires 0 _ (omega (arith, c.if-words-ne2.false))) kept.1)
