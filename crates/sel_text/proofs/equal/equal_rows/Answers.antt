use Rattle.std.proofs.Common.{sym, ap, ◌∙◌}
use Rattle.sel_arrow.specs.Nested.{list_of}
use Rattle.sel_text.proofs.Equalities.{list_of_back, whole_part}
use Rattle.sel_text.proofs.equal.equal_rows.Goals as goal

pub returns : goal.returns
returns c =
    let left = whole_part _ _ c.len.ensures.len in
    let right = whole_part _ _ c.len-2.ensures.len in (
      λ h. sym left ∙ list_of_back _ _ (c.equal_items.ensures.0 h) ∙ right,
      λ same. c.equal_items.ensures.1 (ap list_of (left ∙ same ∙ sym right)),
    )
