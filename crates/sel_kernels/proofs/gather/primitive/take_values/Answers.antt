use Rattle.sel_kernels.proofs.Common.{◌∙◌, map, pos, length, ap, sym, masked, Number, all_within}
use Rattle.sel_kernels.proofs.Takes.{places_within}
use Rattle.sel_kernels.proofs.gather.primitive.take_values.Goals as goal

pub take_places-requires : goal.take_places-requires
take_places-requires g c =
    let indices = c.args.indices.now in
    let whole = ap (λ v. masked v (map (λ x. Number (pos x)) indices.values)) c.in-None.is in
    rw c.as_slice-places.ensures (places_within (length c.args.values.now) indices.values (sym (ap (all_within (length c.args.values.now)) whole) ∙ c.requires))
