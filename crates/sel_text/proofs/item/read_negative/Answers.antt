use Rattle.std.proofs.Common.{arith, ap, sym, ◌∙◌, true≢false}
use Rattle.sel_text.proofs.{Common.Number, Common.fits_number, Ends.digits_told, Numbers.below_small, Numbers.below_signed, Numbers.below_kept}
use Rattle.sel_text.proofs.item.read_negative.Goals as goal

pub returns-in_default : goal.returns-in_default
returns-in_default g c = λ number more fit end is.
    let small = below_small _ number fit in
    let told = digits_told _ _ _ _ more small c.in-Ok.ensures.parts c.in-Ok.ensures.digits c.in-Ok.ensures.end end is in
    omega (arith, small, told.0, c.in_default.ensures)

pub returns-then-size-eq0 : goal.returns-then-size-eq0
returns-then-size-eq0 g c = λ number more fit end is.
    let told = digits_told _ _ _ _ more (below_small _ number fit) c.in-Ok.ensures.parts c.in-Ok.ensures.digits c.in-Ok.ensures.end end is in
    omega (arith, told.0, c.in-Some.ensures, c.if-size-eq0.true)

pub returns-in_default-checked_sub_unsigned : goal.returns-in_default-checked_sub_unsigned
returns-in_default-checked_sub_unsigned g c = λ number more fit end is.
    let told = digits_told _ _ _ _ more (below_small _ number fit) c.in-Ok.ensures.parts c.in-Ok.ensures.digits c.in-Ok.ensures.end end is in
    c.in_default-checked_sub_unsigned.ensures (below_signed _ number c.in-Some.size fit (c.in-Some.ensures ∙ told.0)).0

pub returns-in-None : goal.returns-in-None
returns-in-None g c = λ number more fit end is.
    let told = digits_told _ _ _ _ more (below_small _ number fit) c.in-Ok.ensures.parts c.in-Ok.ensures.digits c.in-Ok.ensures.end end is in
    let kept = below_kept _ number c.in-Some.size c.in-Some-checked_sub_unsigned.number fit (c.in-Some.ensures ∙ told.0) c.in-Some-checked_sub_unsigned.ensures.1 in
    true≢false (sym fit ∙ ap (fits_number g.T.ArrowPrimitive.shape) (sym kept) ∙ c.in-None.ensures.refused)

pub returns-in-Some-from_whole : goal.returns-in-Some-from_whole
returns-in-Some-from_whole g c = λ number more fit end is.
    let told = digits_told _ _ _ _ more (below_small _ number fit) c.in-Ok.ensures.parts c.in-Ok.ensures.digits c.in-Ok.ensures.end end is in
    (ap Number (below_kept _ number c.in-Some.size c.in-Some-checked_sub_unsigned.number fit (c.in-Some.ensures ∙ told.0) c.in-Some-checked_sub_unsigned.ensures.1), told.1)
