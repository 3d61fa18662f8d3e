use Rattle.sel_kernels.proofs.Common.{◌∙◌, ℕ, ap, sym, None, slice_index_or, primitive_rows, number_value, Null, child_pick, place_of, entry_place}
use Rattle.sel_kernels.proofs.Elements.{mapped_at}
use Rattle.sel_kernels.proofs.gather.sublist.fixed_size_list.EntryPlacesPlaces.get.Goals as goal

pub returns : goal.returns
returns c =
    let p = c.args.self.now in
    let arr = p.blocks.arr.now in
    let k = c.args.k in
    let places = λ (k : ℕ). entry_place arr k (place_of arr.size (slice_index_or (primitive_rows p.index.now) k Null)) in
    c.pick_of_place.ensures ∙ ap child_pick (c.entry_at.ensures ∙ ap (entry_place arr k) (c.place_among-place.ensures ∙ ap (λ n. place_of n (number_value (λ i. i) c.get.result)) p.blocks.sized ∙ ap (place_of arr.size) c.get.ensures))
    ∙ sym (mapped_at child_pick places arr.len k None None c.requires)
