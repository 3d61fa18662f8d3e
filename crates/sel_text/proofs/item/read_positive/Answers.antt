use Rattle.std.proofs.Common.{◌≡◌, pos, arith, ap, sym, ◌∙◌, true≢false}
use Rattle.sel_text.proofs.{Common.Number, Common.fits_number, Ends.digits_told, Told.small_number}
use Rattle.sel_text.proofs.item.read_positive.Goals as goal

pub returns-in_default : goal.returns-in_default
returns-in_default g c = λ number more fit end is.
    let small = small_number _ (pos number) fit in
    let told = digits_told number _ _ _ more small c.in-Ok.ensures.parts c.in-Ok.ensures.digits c.in-Ok.ensures.end end is in
    omega (arith, small, told.0, c.in_default.ensures)

pub returns-in-None : goal.returns-in-None
returns-in-None g c = λ number more fit end is.
    let told = digits_told number _ _ _ more (small_number _ (pos number) fit) c.in-Ok.ensures.parts c.in-Ok.ensures.digits c.in-Ok.ensures.end end is in
    let same : c.in-Some.number ≡ number = c.in-Some.ensures ∙ told.0 in
    true≢false (sym fit ∙ ap (λ n. fits_number g.T.ArrowPrimitive.shape (pos n)) (sym same) ∙ c.in-None.ensures.refused)

pub returns-in-Some-from_whole : goal.returns-in-Some-from_whole
returns-in-Some-from_whole g c = λ number more fit end is.
    let told = digits_told number _ _ _ more (small_number _ (pos number) fit) c.in-Ok.ensures.parts c.in-Ok.ensures.digits c.in-Ok.ensures.end end is in
    (ap (λ n. Number (pos n)) (c.in-Some.ensures ∙ told.0), told.1)
