use Rattle.sel_kernels.proofs.Common.{◌∙◌, [], ◌∷◌, length, pos, map, ap, sym, IfOk-weaker, masked, Number, all_within, pick, pick_of}
use Rattle.sel_kernels.proofs.Takes.{below_rows, bits_at, named_at}
use Rattle.sel_kernels.proofs.gather.bitmap.take_bits_or.Goals as goal

pub take_bitmap_unchecked-requires : goal.take_bitmap_unchecked-requires
take_bitmap_unchecked-requires c =
    let indices = c.args.indices.now in
    let n = length c.args.values.now.bits in
    let whole = ap (λ v. masked v (map (λ x. Number (pos x)) indices.values)) c.in-None.is in
    rw c.as_slice-places.ensures (below_rows n indices.values ∙ (sym (ap (all_within n) whole) ∙ c.requires))

pub returns-in-None-clause-bits : goal.returns-in-None-clause-bits
returns-in-None-clause-bits c =
    let indices = c.args.indices.now in
    let bits = c.args.values.now.bits in
    let whole = ap (λ v. masked v (map (λ x. Number (pos x)) indices.values)) c.in-None.is in
    let below = below_rows (length bits) indices.values ∙ (sym (ap (all_within (length bits)) whole) ∙ c.requires) in
    IfOk-weaker c.take_bitmap_unchecked.result _ _
    (λ taken is. is ∙ ap (bits_at bits) c.as_slice-places.ensures ∙ named_at bits c.args.filler indices.values below ∙ sym (ap (λ l. pick c.args.filler (bits ∷ []) (map pick_of l)) whole))
    c.take_bitmap_unchecked.ensures.bits
