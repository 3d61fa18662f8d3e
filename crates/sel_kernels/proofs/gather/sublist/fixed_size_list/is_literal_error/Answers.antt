use Rattle.sel_kernels.proofs.Common.{◌∙◌, ap, sym, arith, true, false, w64, place, at_each, is_none, to_z-of_z}
use Rattle.sel_kernels.proofs.Elements.{all_inside, each_place, none_is, outside_at}
use Rattle.sel_kernels.proofs.gather.sublist.fixed_size_list.is_literal_error.Goals as goal

pub returns-then-is_some : goal.returns-then-is_some
returns-then-is_some c =
    let arr = c.args.arr.now in
    let found = c.negative_to_usize.ensures ∙ ap (λ z. place z arr.size) (to_z-of_z w64 c.args.index c.ranges.index) in
    let some = sym (ap is_none found) ∙ none_is c.negative_to_usize.result false (sym c.is_some.ensures ∙ c.if-is_some.true) in
    all_inside arr (at_each arr c.args.index) c.args.null_on_oob c.if-null_on_oob.false (λ k h e. ap is_none (each_place arr c.args.index k h) ∙ some)

pub returns-then-is_valid_at : goal.returns-then-is_valid_at
returns-then-is_valid_at c =
    let arr = c.args.arr.now in
    let found = c.negative_to_usize.ensures ∙ ap (λ z. place z arr.size) (to_z-of_z w64 c.args.index c.ranges.index) in
    let none = sym (ap is_none found) ∙ none_is c.negative_to_usize.result true (sym c.is_some.ensures ∙ c.if-is_some.false) in
    outside_at arr (at_each arr c.args.index) c.args.null_on_oob c.loop-k.k c.if-null_on_oob.false c.loop-k-test.true (sym c.is_valid_at.ensures ∙ c.if-is_valid_at.true)
    (ap is_none (each_place arr c.args.index c.loop-k.k c.loop-k-test.true) ∙ none)

pub returns : goal.returns
returns c =
    let arr = c.args.arr.now in
    all_inside arr (at_each arr c.args.index) c.args.null_on_oob c.if-null_on_oob.false
    (λ k h e. let null = c.loop-k.invariant k (omega (arith, h, c.loop-k-test.false)) in absurd cc)
