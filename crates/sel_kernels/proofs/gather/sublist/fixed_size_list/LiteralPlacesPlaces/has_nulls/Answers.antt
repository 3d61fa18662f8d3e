use Rattle.sel_kernels.proofs.Common.{◌∙◌, ap, sym, at_each, is_none, is_some}
use Rattle.sel_kernels.proofs.Elements.{copied_there, each_place, entries_there, is_gone, none_is}
use Rattle.sel_kernels.proofs.gather.sublist.fixed_size_list.LiteralPlacesPlaces.has_nulls.Goals as goal

pub returns-else-is_none : goal.returns-else-is_none
returns-else-is_none c =
    let p = c.args.self.now in
    let arr = p.blocks.arr.now in
    λ whole.
    entries_there arr (at_each arr p.index) (is_gone arr.validity (ap is_some (sym p.blocks.shown) ∙ copied_there p.blocks.validity ∙ sym c.is_some.ensures ∙ whole))
    (λ k h. ap is_none (each_place arr p.index k h ∙ sym p.placed) ∙ none_is p.place c.is_none.result c.is_none.ensures ∙ c.if-is_none.false)
