use Rattle.std.proofs.Common.{◌∙◌, ◌∷◌, [], List, ℕ, Some, ap, arith}
use Rattle.sel_arrow.specs.Makers.{utf8view_fault}
use Rattle.sel_lines.proofs.MadeColumns.{never_fault, texts_sound}
use Rattle.sel_lines.proofs.texts.Texts.into_column.Goals as goal

pub unreachable-requires : goal.unreachable-requires
unreachable-requires c =
    let texts = c.args.self in
    let bytes = c.in_ok-bytes.ensures.items in
    let buffers = c.in_ok-buffers.ensures.items ∙ c.in_ok-vec.ensures.items ∙ ap (λ (b : List ℕ). b ∷ []) bytes in
    let views = c.in_ok-views.ensures.items in
    let shown = ap (λ b. b.bits) c.in_ok-validity.ensures.value ∙ c.deref.ensures.value in
    let sound = texts_sound texts.views.items (texts.bytes.items ∷ []) c.in_ok-validity.validity texts.validity.items texts.few (omega arith) shown texts.paired texts.placed texts.texts in
    never_fault _ c.in-Err.field-0 (ap (λ bs. utf8view_fault c.in_ok-views.views bs (Some c.in_ok-validity.validity)) buffers ∙ ap (λ vs. utf8view_fault vs (texts.bytes.items ∷ []) (Some c.in_ok-validity.validity)) views ∙ sound) c.in-Err.ensures.refused
