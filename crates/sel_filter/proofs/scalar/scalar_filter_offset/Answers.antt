use Rattle.sel_filter.proofs.Common.{◌≡◌, ◌-◌, ◌∙◌, length, take, drop, ap, sym, arith, take_all, length-take, length-drop, bits_from}
use Rattle.sel_filter.proofs.Scalars.{first_bits, bits_rest, boundary_rows}
use Rattle.sel_filter.proofs.scalar.scalar_filter_offset.Goals as goal

pub returns-clause-appended : goal.returns-clause-appended
returns-clause-appended g c = grind (arith, boundary_rows, length-take, first_bits)

pub returns-clause-bits : goal.returns-clause-bits
returns-clause-bits g c =
    let slice = c.as_slice-offset.ensures in
    let bytes = c.as_slice-offset.result.0.now in
    let o = c.as_slice-offset.result.1 in
    let mask = c.args.mask.now in
    let values = c.args.values.now in
    let count = c.min-count.result in
    let boundary = boundary_rows mask o _ count (omega arith) slice.offset slice.len c.min-count.ensures in
    let whole : take (length bytes - 1) (drop 1 bytes) ≡ drop 1 bytes = take_all (length bytes - 1) (drop 1 bytes) (omega (arith, length-drop 1 bytes)) in
    let left : length (take (length values - count) (drop count values)) ≡ c.as_slice-offset.result.2 - count = omega (arith, length-take (length values - count) (drop count values), length-drop count values, slice.len, c.requires) in
    (λ i. bits_from (whole i) 0 (left i)) ∙ bits_rest bytes 1 0 o _ count (omega (arith, c.min-count.ensures)) (λ inside. omega (arith, c.min-count.ensures, inside)) ∙ ap (drop count) (sym slice.bits) ∙ ap (λ k. drop k mask.bits) (sym boundary)
