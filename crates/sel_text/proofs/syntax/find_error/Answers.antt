use Rattle.std.proofs.Common.{◌≡◌, ap, arith, length, refl, reverse, slice_index_or, sym, ◌∙◌}
use Rattle.sel_text.{specs.Notation.after_byte, specs.Notation.innermost, specs.Notation.is_end, proofs.Completions.ends_early, proofs.Completions.leads_more, proofs.Completions.fails_at}
use Rattle.sel_text.proofs.syntax.find_error.Goals as goal

pub returns-in_default : goal.returns-in_default
returns-in_default c =
    let top = c.innermost_of.ensures ∙ ap (λ brackets. innermost (reverse brackets)) c.deref.ensures.value in
    let told = sym c.in_default.is ∙ c.after.ensures ∙ ap (λ top. after_byte c.loop-i.next top (slice_index_or c.args.text.now c.loop-i.i 0)) top in
    fails_at c.args.start c.args.text.now c.loop-i.next (reverse c.loop-i.brackets.items) c.loop-i.i (slice_index_or c.args.text.now c.loop-i.i 0) c.loop-i-test.true refl told c.loop-i.invariant

pub loop-i-preserved : goal.loop-i-preserved
loop-i-preserved c =
    let top = c.innermost_of.ensures ∙ ap (λ brackets. innermost (reverse brackets)) c.deref.ensures.value in
    let told = sym c.in-Some.is ∙ c.after.ensures ∙ ap (λ top. after_byte c.loop-i.next top (slice_index_or c.args.text.now c.loop-i.i 0)) top in
    leads_more c.args.start c.args.text.now c.loop-i.next _ _ (reverse c.loop-i.brackets.items) _ c.loop-i.i (slice_index_or c.args.text.now c.loop-i.i 0) c.loop-i-test.true refl told c.in_ok-apply.ensures c.loop-i.invariant

pub returns : goal.returns
returns c =
    let told = ap (λ brackets. is_end c.loop-i.next (reverse brackets)) (sym c.deref-2.ensures.value) ∙ sym c.may_end.ensures ∙ c.if-may_end.false in
    let whole : c.loop-i.i ≡ length c.args.text.now = omega (arith, c.loop-i-test.false, c.loop-i.auto.i-end) in
    ends_early c.args.start c.args.text.now c.loop-i.next (reverse c.loop-i.brackets.items) c.loop-i.i (length c.args.text.now) whole refl told c.loop-i.invariant
