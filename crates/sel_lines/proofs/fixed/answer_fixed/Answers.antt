use Rattle.std.proofs.Common.{◌∙◌, arith, ap, sym, subst, length, replicate, rules, w64, option_map}
use Rattle.sel_lines.proofs.Common.{to_z-of_z, Number, Truth, IsReadingBlocks, entries_text}
use Rattle.sel_lines.proofs.{FewItems.few_blocks, FewItems.narrow_width, ReadBlocks.fixed_answered}
use Rattle.sel_lines.proofs.fixed.answer_fixed.Goals as goal

pub returns : goal.returns
returns c =
    let width = c.in-Some.width in
    let index = c.in-Some-parse.index in
    let null_on_oob = c.in-Some-parse-2.null_on_oob in
    let held = subst (IsReadingBlocks width _) c.in-Some-2.is c.in_ok-blocks.ensures in
    fixed_answered c.args.words.now _ width held.0 index null_on_oob _ c.if-words-ne4.false (sym c.in-Some.is ∙ c.parse_width.ensures) held.1
    (sym (ap (option_map Number) c.in-Some-parse.is) ∙ c.parse.ensures) (sym (ap (option_map Truth) c.in-Some-parse-2.is) ∙ c.parse-2.ensures)
    (c.in_ok-answer_blocks.ensures held.0 held.2
    ∙ ap (λ z. entries_text width held.0 (replicate (length held.0) (Number z)) null_on_oob) (to_z-of_z w64 index (search rules)))

pub answer_blocks-requires-clause-kept : goal.answer_blocks-requires-clause-kept
answer_blocks-requires-clause-kept c =
    let kept = subst (IsReadingBlocks c.in-Some.width _) c.in-Some-2.is c.in_ok-blocks.ensures in
    (kept.0, kept.2, few_blocks c.in-Some.width _ kept.0 (narrow_width _ c.in-Some.width (sym c.in-Some.is ∙ c.parse_width.ensures)) (c.requires 1 _ (omega (arith, c.if-words-ne4.false))) kept.1)
