use Rattle.sel_kernels.proofs.Common.{◌∙◌, ap, sym, arith, primitive_rows, place_of, is_none}
use Rattle.sel_kernels.proofs.Elements.{all_inside, none_is, outside_at}
use Rattle.sel_kernels.proofs.gather.sublist.fixed_size_list.is_error.Goals as goal

pub returns-then-is_none : goal.returns-then-is_none
returns-then-is_none c =
    let arr = c.args.arr.now in
    let place = c.place_among.ensures ∙ ap (place_of arr.size) c.get.ensures in
    outside_at arr (primitive_rows c.args.index.now) c.args.null_on_oob c.loop-k.k c.if-null_on_oob.false c.loop-k-test.true (sym c.is_valid_at.ensures ∙ c.if-is_valid_at.true)
    (sym (ap is_none place) ∙ none_is c.place_among.result c.is_none.result c.is_none.ensures ∙ c.if-is_none.true)

pub returns : goal.returns
returns c =
    all_inside c.args.arr.now (primitive_rows c.args.index.now) c.args.null_on_oob c.if-null_on_oob.false
    (λ k h e. c.loop-k.invariant k (omega (arith, h, c.loop-k-test.false)) e)
