use Rattle.std.proofs.Common.{arith, refl, sym, ap, ◌∙◌, true≢false}
use Rattle.sel_text.proofs.{Common.cell_value, Equalities.entry_at, Equalities.same_tuples, Equalities.tuples_same}
use Rattle.sel_arrow.proofs.Types.{same_lengths, same_at, same_all}
use Rattle.sel_text.proofs.equal.+comparing.Goals as goal

pub equal_parts-returns-then-fields-others : goal.equal_parts-returns-then-fields-others
equal_parts-returns-then-fields-others t c = (
  λ h. absurd (true≢false (sym h)),
  λ same. absurd (c.if-fields-others.true (same_lengths (entry_at c.args.place) (entry_at c.in-Parts.at) _ _ (same_tuples _ _ _ _ (same ∙ ap cell_value c.in-Parts.is)))),
)

pub equal_parts-returns-then-not-equal_at : goal.equal_parts-returns-then-not-equal_at
equal_parts-returns-then-not-equal_at t c =
    let left = ap (entry_at c.args.place) c.index-fields-k.is in
    let right = ap (entry_at c.in-Parts.at) c.index-others-k.is in (
      λ h. absurd (true≢false (sym h)),
      λ same. absurd (
          let all = same_tuples c.args.place c.in-Parts.at _ _ (same ∙ ap cell_value c.in-Parts.is) in
          let here = same_at (entry_at c.args.place) (entry_at c.in-Parts.at) _ _ c.loop-k.k c.index-fields-k.result c.index-others-k.result (omega arith) (omega (arith, c.if-fields-others.false)) all in
          true≢false (sym (c.equal_at.ensures.1 (left ∙ here ∙ sym right)) ∙ c.if-not-equal_at.true)),
    )

pub equal_parts-returns : goal.equal_parts-returns
equal_parts-returns t c =
    (λ h. tuples_same _ _ _ _ (same_all (entry_at c.args.place) (entry_at c.in-Parts.at) _ _ c.loop-k.k (omega arith) (omega (arith, c.if-fields-others.false)) c.loop-k.invariant) ∙ sym (ap cell_value c.in-Parts.is), λ same. refl)
