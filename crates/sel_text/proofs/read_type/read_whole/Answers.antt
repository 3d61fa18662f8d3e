use Rattle.std.proofs.Common.{[], ap, sym, ◌∙◌, length, true≢false, append-nil, ◌==◌}
use Rattle.sel_text.specs.Types.{type_text}
use Rattle.sel_text.proofs.read_type.read_whole.Goals as goal

pub returns-in-Err-clause-refused : goal.returns-in-Err-clause-refused
returns-in-Err-clause-refused c = λ s few is. c.in-Err.ensures.whole s [] few (is ∙ sym (append-nil (type_text s)))

pub returns-then-not-is_empty-clause-refused : goal.returns-then-not-is_empty-clause-refused
returns-then-not-is_empty-clause-refused c = λ s few is.
    let told = c.in-Ok.ensures.whole s [] few (is ∙ sym (append-nil (type_text s))) in
    true≢false (sym (c.is_empty.ensures ∙ ap (λ rest. length rest == 0) told.1) ∙ c.if-not-is_empty.true)
