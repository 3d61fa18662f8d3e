use Rattle.sel_kernels.proofs.Common.{◌∙◌, ap, sym, None, rules, SFits, w64, rows_between, child_pick, child_place, to_z-of_z}
use Rattle.sel_kernels.proofs.Elements.{mapped_at}
use Rattle.sel_kernels.proofs.gather.sublist.list.ListPlacesPlaces.get.Goals as goal

pub returns : goal.returns
returns c =
    let arr = c.args.self.now.arr.now in
    let fits : SFits w64 c.args.self.now.index = search rules in
    let shown = to_z-of_z w64 c.args.self.now.index fits in
    c.pick_of_place.ensures ∙ ap child_pick (c.place_in_child.ensures ∙ ap (λ z. child_place arr.offsets arr.validity z c.args.k) shown)
    ∙ sym (mapped_at child_pick (child_place arr.offsets arr.validity c.args.self.now.index) (rows_between arr.offsets) c.args.k None None c.requires)
