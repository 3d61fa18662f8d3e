use Rattle.sel_kernels.proofs.Common.{◌∙◌, ◌*◌, ap, arith, sym, subst, type_of}
use Rattle.sel_kernels.proofs.{BareElements.indices_long, BareElements.child_long, BareElements.elements_got, Elements.is_gone, Elements.lists_few}
use Rattle.sel_kernels.specs.BareElements.{MayMake}
use Rattle.sel_kernels.proofs.gather.sublist.bare_elements.elements_at.Goals as goal

pub elements_of-requires : goal.elements_of-requires
elements_of-requires c =
    let arr = c.args.arr.now in
    let index = c.args.index.now in
    let long = indices_long arr index.values index.validity c.requires in
    rw (c.values.ensures.column, c.as_slice.ensures)
    (record {
      len = ap (λ n. n * arr.size) long ∙ sym (child_long arr);
      few = omega (arith, long, lists_few arr);
    })

pub returns : goal.returns
returns c =
    let arr = c.args.arr.now in
    let index = c.args.index.now in
    let made = rw (c.values.ensures.column, c.as_slice.ensures) at c.elements_of.ensures in
    subst (MayMake c.elements_of.result (type_of arr.values.value))
    (elements_got arr index.values index.validity (is_gone arr.validity (sym c.is_some.ensures ∙ c.if-is_some.false)) (is_gone index.validity (sym c.is_some-2.ensures ∙ c.if-is_some-2.false))
    (indices_long arr index.values index.validity c.requires))
    made
