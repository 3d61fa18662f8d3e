use Rattle.sel_kernels.proofs.Common.{◌∙◌, ap, sym, rules, SFits, w64, rows, oob, to_z-of_z}
use Rattle.sel_arrow.specs.NestedArrays.{list_column}
use Rattle.sel_kernels.proofs.Elements.{all_there, is_gone}
use Rattle.sel_kernels.proofs.gather.sublist.list.ListPlacesPlaces.has_nulls.Goals as goal

pub returns-else-is_some : goal.returns-else-is_some
returns-else-is_some c =
    let p = c.args.self.now in
    let arr = p.arr.now in
    let fits : SFits w64 p.index = search rules in
    λ none.
    all_there arr.offsets arr.values arr.validity arr.formed p.index (is_gone arr.validity (sym c.is_some.ensures ∙ c.if-is_some.false))
    (ap (oob (rows (list_column arr))) (sym (to_z-of_z w64 p.index fits)) ∙ sym c.index_is_oob.ensures ∙ none)
