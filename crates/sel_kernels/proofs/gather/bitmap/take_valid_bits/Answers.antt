use Rattle.sel_kernels.proofs.Common.{◌∙◌, ◌&&◌, ◌||◌, not, Some, [], ◌∷◌, pos, map, ap, sym, IfOk-weaker, Bits, zip_with, number_rows, pick, pick_of}
use Rattle.sel_kernels.proofs.Common.{replicate, length-number_rows}
use Rattle.sel_kernels.proofs.Takes.{falses_near, trues_near, no_bits}
use Rattle.sel_kernels.proofs.gather.bitmap.take_valid_bits.Goals as goal

pub returns-then-filler-clause-bits : goal.returns-then-filler-clause-bits
returns-then-filler-clause-bits c =
    let bits = c.args.values.now.bits in
    let places = c.args.places.now in
    let valid = c.args.valid.now in
    let near = c.in_ok-taken.ensures.bits in
    IfOk-weaker c.or_not.result _ _
    (λ taken is. ap (λ (b : Bits). b.bits) is ∙ ap (λ l. zip_with (λ x y. x || not y) l valid.bits) near ∙ trues_near bits valid.bits places c.requires.long c.requires.within
    ∙ ap (λ filler. pick filler (bits ∷ []) (map pick_of (number_rows pos places (Some valid)))) (sym c.if-filler.true))
    c.or_not.ensures.value

pub returns-clause-bits : goal.returns-clause-bits
returns-clause-bits c =
    let bits = c.args.values.now.bits in
    let places = c.args.places.now in
    let valid = c.args.valid.now in
    let near = c.in_ok-taken.ensures.bits in
    IfOk-weaker c.and.result _ _
    (λ taken is. ap (λ (b : Bits). b.bits) is ∙ ap (λ l. zip_with (λ x y. x && y) l valid.bits) near ∙ falses_near bits valid.bits places c.requires.long c.requires.within
    ∙ ap (λ filler. pick filler (bits ∷ []) (map pick_of (number_rows pos places (Some valid)))) (sym c.if-filler.false))
    c.and.ensures.value

pub returns-then-is_empty-clause-bits : goal.returns-then-is_empty-clause-bits
returns-then-is_empty-clause-bits c =
    let places = c.args.places.now in
    let rows = number_rows pos places (Some c.args.valid.now) in
    let none = c.is_empty.ensures.0 c.if-is_empty.true in
    IfOk-weaker c.new_with_value.result _ _
    (λ taken is. ap (λ (b : Bits). b.bits) is ∙ ap (λ n. replicate n c.args.filler) (sym (length-number_rows pos places (Some c.args.valid.now))) ∙ sym (no_bits c.args.filler c.args.values.now.bits rows none))
    c.new_with_value.ensures.value
