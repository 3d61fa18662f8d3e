use Rattle.sel_kernels.proofs.Common.{◌<◌, ◌∙◌, ℕ, ap, sym, subst, arith, None, slice_index_or, Null, Number, child_pick, at_each, place_of, entry_place}
use Rattle.sel_kernels.proofs.Elements.{PlaceBelow, each_place, entries_long, mapped_at, place_of_below}
use Rattle.sel_kernels.proofs.gather.sublist.fixed_size_list.LiteralPlacesPlaces.get.Goals as goal

pub entry_at-requires-clause-below : goal.entry_at-requires-clause-below
entry_at-requires-clause-below c =
    let p = c.args.self.now in
    subst (PlaceBelow p.blocks.arr.now.size) (sym p.placed) (place_of_below p.blocks.arr.now.size (Number p.index))

pub returns : goal.returns
returns c =
    let p = c.args.self.now in
    let arr = p.blocks.arr.now in
    let k = c.args.k in
    let inside : k < arr.len = omega (arith, c.requires, entries_long arr (at_each arr p.index)) in
    let places = λ (k : ℕ). entry_place arr k (place_of arr.size (slice_index_or (at_each arr p.index) k Null)) in
    c.pick_of_place.ensures ∙ ap child_pick (c.entry_at.ensures ∙ ap (entry_place arr k) (p.placed ∙ sym (each_place arr p.index k inside)))
    ∙ sym (mapped_at child_pick places arr.len k None None c.requires)
