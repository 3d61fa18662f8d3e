use Rattle.sel_kernels.proofs.Common.{◌<◌, ◌∙◌, length, ap, sym, arith, Number, length-number_rows, is_within}
use Rattle.sel_kernels.proofs.Takes.{row_within}
use Rattle.sel_kernels.proofs.gather.is_row_in_bounds.Goals as goal

pub returns-then-is_in_bounds : goal.returns-then-is_in_bounds
returns-then-is_in_bounds g c =
    let indices = c.args.indices.now in
    let number = g.I.NativeType.number in
    let inside : c.args.k < length indices.values = omega (arith, c.requires, length-number_rows number indices.values indices.validity) in
    let within = ap (λ x. is_within c.args.len (Number (number x))) (sym (rw c.as_slice.ensures at c.index-as_slice-k.is)) ∙ sym c.is_in_bounds.ensures ∙ c.if-is_in_bounds.true in
    c.if-is_in_bounds.true ∙ sym (row_within number indices.validity indices.values c.index-as_slice-k.result c.args.k c.args.len indices.validity_fits inside within)
